mod FullFirst
mod Others
pub mod Clouds
mod RowLaws
mod Alphas
mod RankAt
mod LeastsAround
pub mod Cited

pub mod MeshLists

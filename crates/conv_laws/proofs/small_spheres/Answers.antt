use Rattle.conv_laws.proofs.Spheres.{power_carried, edge_power_carried, triangle_on_sphere, triangle_power_carried}
use Rattle.conv_laws.proofs.small_spheres.Goals as goal

pub returns-clause-power : goal.returns-clause-power
returns-clause-power c = power_carried

pub returns-clause-edge : goal.returns-clause-edge
returns-clause-edge c = edge_power_carried

pub returns-clause-triangle_vertices : goal.returns-clause-triangle_vertices
returns-clause-triangle_vertices c = triangle_on_sphere

pub returns-clause-triangle : goal.returns-clause-triangle
returns-clause-triangle c = triangle_power_carried

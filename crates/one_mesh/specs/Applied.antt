-- What an edit makes of a mesh.
use Rattle.std.specs.Prelude.{ℕ, List, [], ◌∷◌, ◌++◌, length}
use Rattle.edit_history.specs.declared.history.Edit.{Edit}
use Rattle.edit_history.specs.declared.history.Entry.{Entry}
use Rattle.edit_history.specs.Edits.{reply_to}
use Rattle.edit_history.specs.Histories.{replay}
use Rattle.cell_store.specs.Meshes.{MeshView}

-- the entry of an edit that one thread makes after a history
abbrev pub next_entry : List Entry → ℕ → Edit → Entry
next_entry h tag edit = record { number = length h; by = 0; tag = tag; edit = edit; reply = reply_to (replay h) edit }

-- the mesh with the entry of the edit
abbrev pub edited : MeshView → ℕ → Edit → MeshView
edited mesh tag edit = record mesh { history = mesh.history ++ next_entry mesh.history tag edit ∷ [] }

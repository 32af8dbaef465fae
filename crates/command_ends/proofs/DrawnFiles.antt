-- What holds of a drawn file.
use Rattle.std.proofs.Common.{◌≡◌, inl, inr, ◌∙◌, ap, sym, subst, ℕ, ◌+◌, ◌<◌, ◌≤◌, ◌^◌, Bool, true, false, List, []}
use Rattle.std.proofs.Common.{◌∷◌, length, arith, lit<}
use Rattle.std.specs.Prelude.{IsErrAnd, IfErr, Result, Ok, Err, String}
use Rattle.std.specs.declared.alloc.Global.{Global}
use Rattle.std.proofs.lemmas.List.Elements.{All-cons, All-nil}
use Rattle.std.proofs.lemmas.List.FromFn.{length-map-range_with_len}
use Rattle.point_order.specs.Solid.{is_solid}
use Rattle.edit_files.specs.Content.{Content}
use Rattle.edit_files.specs.Generator.{edit_line, generated}
use Rattle.edit_files.proofs.Cited.{generated_solid}
use Rattle.edit_history.specs.declared.history.Entry.{Entry}
use Rattle.mesh_files.specs.Summary.{summary_text}
use Rattle.mesh_files.specs.Text.{ReportParts}
use Rattle.command_pages.specs.declared.made.Made.{Made}
use Rattle.command_words.specs.declared.stop.Stop.{Stop}
use Rattle.command_words.specs.declared.stop.Stop.TheVariants.{Memory}
use Rattle.command_pages.specs.Reading.{AreRadii}
use Rattle.command_ends.specs.Meshed.{IsMeshed, IsUnmeshed}
use Rattle.command_words.specs.declared.task.Drawn.{Drawn}
use Rattle.command_words.specs.declared.task.Making.{Making}
use Rattle.command_ends.specs.Drawn.{IsDrawn, IsKeptOfDrawn, drawn_file}
use Rattle.command_pages.specs.Run.{IsKept}
use Rattle.command_words.specs.Words.{asks_text, drawn_count, drawn_start, worker_count, Asks, Draws}

-- a drawn file of at most 262,140 edits has fewer than 2^32 lines
pub drawn_lines : (f : Content) (count start : ℕ) → count ≤ 262140 → f ≡ generated count start →
    length f.points + length f.edits + 4 < 2 ^ 32
drawn_lines f count start few e =
    let points : length f.points ≡ 4 = ap (λ (g : Content). length g.points) e in
    let edits : length f.edits ≡ count = ap (λ (g : Content). length g.edits) e
    ∙ length-map-range_with_len (edit_line start) 1 count in
    omega arith

-- its radii are radii of its version
pub drawn_radii : (f : Content) (count start : ℕ) → f ≡ generated count start → AreRadii f.version f.radii
drawn_radii f count start e =
    subst (λ (g : Content). AreRadii g.version g.radii) (sym e)
    (All-cons (λ radius. radius < 2 ^ 30) 16384 (262144 ∷ 4194304 ∷ []) (lit< tt)
    (All-cons (λ radius. radius < 2 ^ 30) 262144 (4194304 ∷ []) (lit< tt)
    (All-cons (λ radius. radius < 2 ^ 30) 4194304 [] (lit< tt) (All-nil (λ radius. radius < 2 ^ 30)))))

-- its points are solid
drawn_solid : (f : Content) (count start : ℕ) → f ≡ generated count start → is_solid f.points ≡ true
drawn_solid f count start e = ap (λ (g : Content). is_solid g.points) e ∙ generated_solid count start

-- where a drawn file has no mesh, memory is wanting
pub unmeshed_drawn : (f : Content) (count start : ℕ) → f ≡ generated count start → (stop : Stop) → IsUnmeshed f stop →
    stop ≡ Memory
unmeshed_drawn f count start e stop (inl m) = m
unmeshed_drawn f count start e stop (inr k) = absurd (let solid = drawn_solid f count start e in let flat = k.1 in cc)

-- and it ends so
pub wanting : (m : Result Made Stop) (stop : Stop) → IsErrAnd m (λ e. e ≡ stop) → stop ≡ Memory →
    IfErr m (λ e. e ≡ Memory)
wanting (Ok made) stop a e = tt
wanting (Err s) stop a e = a ∙ e

-- what is made of the file that was read of the words is that of the file that they ask for
pub drawn_asked : (making : Making) (drawn : Drawn) (words : List (String Global)) (h : List Entry) (text : List ℕ) →
    Asks Draws words × (drawn.count ≡ drawn_count words) × (drawn.start ≡ drawn_start words) × (drawn.text ≡ asks_text
    words) × (making.workers ≡ worker_count words) →
    IsDrawn drawn.text making.workers (generated drawn.count drawn.start) h text →
    IsDrawn (asks_text words) (worker_count words) (drawn_file words) h text
drawn_asked making drawn words h text k x =
    subst (λ (n : ℕ). IsDrawn (asks_text words) n (drawn_file words) h text) k.4
    (subst (λ (n : ℕ). IsDrawn (asks_text words) making.workers (generated (drawn_count words) n) h text) k.2
    (subst (λ (n : ℕ). IsDrawn (asks_text words) making.workers (generated n drawn.start) h text) k.1
    (subst (λ (b : Bool). IsDrawn b making.workers (generated drawn.count drawn.start) h text) k.3 x)))

-- what is kept of a drawn file whose text is not asked for
pub kept_meshed : (text : Bool) (file : Content) (workers : ℕ) (h : List Entry) → text ≡ false →
    IsKeptOfDrawn text file workers h → IsKept file workers h
kept_meshed text file workers h t k = subst (λ (b : Bool). IsKeptOfDrawn b file workers h) t k

-- the mesh of a drawn file, where its text is not asked for
pub drawn_meshed : (text : Bool) (workers : ℕ) (f file : Content) (h : List Entry) (r : ReportParts) → text ≡ false →
    f ≡ file → IsMeshed workers true false f h r →
    IsDrawn text workers file h (summary_text r)
drawn_meshed text workers f file h r t e m =
    subst (λ (b : Bool). IsDrawn b workers file h (summary_text r)) (sym t) (subst (λ (c : Content). IsDrawn false
    workers c h (summary_text r)) e (m.kept, ap summary_text m.report_is))

use Rattle.std.proofs.Common.{◌≡◌, true, false, refl, sym, ◌∙◌}
use Rattle.std.specs.Prelude.{codes}
use Rattle.std.specs.Str.{bytes_eq}
use Rattle.mesh_reader.specs.Judging.{reply_of}
use Rattle.mesh_reader.proofs.line.reply_of.Goals as goal

pub returns-then-reads : goal.returns-then-reads
unfolding reply_of
returns-then-reads c =
    let a : bytes_eq c.args.line.now (codes "Inserted") ≡ true = sym c.reads.ensures ∙ c.if-reads.true in
    rw a refl

pub returns-then-reads-2 : goal.returns-then-reads-2
unfolding reply_of
returns-then-reads-2 c =
    let a : bytes_eq c.args.line.now (codes "Inserted") ≡ false = sym c.reads.ensures ∙ c.if-reads.false in
    let b : bytes_eq c.args.line.now (codes "Duplicate") ≡ true = sym c.reads-else-reads.ensures ∙ c.if-reads-2.true in
    rw (a, b) refl

pub returns-then-reads-3 : goal.returns-then-reads-3
unfolding reply_of
returns-then-reads-3 c =
    let a : bytes_eq c.args.line.now (codes "Inserted") ≡ false = sym c.reads.ensures ∙ c.if-reads.false in
    let b : bytes_eq c.args.line.now (codes "Duplicate") ≡ false = sym c.reads-else-reads.ensures
    ∙ c.if-reads-2.false in
    let d : bytes_eq c.args.line.now (codes "Removed") ≡ true = sym c.reads-else-reads-2.ensures ∙ c.if-reads-3.true in
    rw (a, b, d) refl

pub returns-then-reads-4 : goal.returns-then-reads-4
unfolding reply_of
returns-then-reads-4 c =
    let a : bytes_eq c.args.line.now (codes "Inserted") ≡ false = sym c.reads.ensures ∙ c.if-reads.false in
    let b : bytes_eq c.args.line.now (codes "Duplicate") ≡ false = sym c.reads-else-reads.ensures
    ∙ c.if-reads-2.false in
    let d : bytes_eq c.args.line.now (codes "Removed") ≡ false = sym c.reads-else-reads-2.ensures
    ∙ c.if-reads-3.false in
    let e : bytes_eq c.args.line.now (codes "Missing") ≡ true = sym c.reads-else-reads-3.ensures ∙ c.if-reads-4.true in
    rw (a, b, d, e) refl

pub returns-then-reads-5 : goal.returns-then-reads-5
unfolding reply_of
returns-then-reads-5 c =
    let a : bytes_eq c.args.line.now (codes "Inserted") ≡ false = sym c.reads.ensures ∙ c.if-reads.false in
    let b : bytes_eq c.args.line.now (codes "Duplicate") ≡ false = sym c.reads-else-reads.ensures
    ∙ c.if-reads-2.false in
    let d : bytes_eq c.args.line.now (codes "Removed") ≡ false = sym c.reads-else-reads-2.ensures
    ∙ c.if-reads-3.false in
    let e : bytes_eq c.args.line.now (codes "Missing") ≡ false = sym c.reads-else-reads-3.ensures
    ∙ c.if-reads-4.false in
    let f : bytes_eq c.args.line.now (codes "Flat") ≡ true = sym c.reads-else-reads-4.ensures ∙ c.if-reads-5.true in
    rw (a, b, d, e, f) refl

pub returns-then-reads-6 : goal.returns-then-reads-6
unfolding reply_of
returns-then-reads-6 c =
    let a : bytes_eq c.args.line.now (codes "Inserted") ≡ false = sym c.reads.ensures ∙ c.if-reads.false in
    let b : bytes_eq c.args.line.now (codes "Duplicate") ≡ false = sym c.reads-else-reads.ensures
    ∙ c.if-reads-2.false in
    let d : bytes_eq c.args.line.now (codes "Removed") ≡ false = sym c.reads-else-reads-2.ensures
    ∙ c.if-reads-3.false in
    let e : bytes_eq c.args.line.now (codes "Missing") ≡ false = sym c.reads-else-reads-3.ensures
    ∙ c.if-reads-4.false in
    let f : bytes_eq c.args.line.now (codes "Flat") ≡ false = sym c.reads-else-reads-4.ensures ∙ c.if-reads-5.false in
    let g : bytes_eq c.args.line.now (codes "Moved") ≡ true = sym c.reads-else-reads-5.ensures ∙ c.if-reads-6.true in
    rw (a, b, d, e, f, g) refl

-- the line is the last of the words, and its reply is returned
pub returns-then-reads-7 : goal.returns-then-reads-7
unfolding reply_of
returns-then-reads-7 c =
    let a : bytes_eq c.args.line.now (codes "Inserted") ≡ false = sym c.reads.ensures ∙ c.if-reads.false in
    let b : bytes_eq c.args.line.now (codes "Duplicate") ≡ false = sym c.reads-else-reads.ensures
    ∙ c.if-reads-2.false in
    let d : bytes_eq c.args.line.now (codes "Removed") ≡ false = sym c.reads-else-reads-2.ensures
    ∙ c.if-reads-3.false in
    let e : bytes_eq c.args.line.now (codes "Missing") ≡ false = sym c.reads-else-reads-3.ensures
    ∙ c.if-reads-4.false in
    let f : bytes_eq c.args.line.now (codes "Flat") ≡ false = sym c.reads-else-reads-4.ensures ∙ c.if-reads-5.false in
    let g : bytes_eq c.args.line.now (codes "Moved") ≡ false = sym c.reads-else-reads-5.ensures ∙ c.if-reads-6.false in
    let h : bytes_eq c.args.line.now (codes "Occupied") ≡ true = sym c.reads-else-reads-6.ensures ∙ c.if-reads-7.true in
    rw (a, b, d, e, f, g, h) refl

-- it is none of the words, and is wrong in form
pub returns-else-reads-7 : goal.returns-else-reads-7
unfolding reply_of
returns-else-reads-7 c =
    let a : bytes_eq c.args.line.now (codes "Inserted") ≡ false = sym c.reads.ensures ∙ c.if-reads.false in
    let b : bytes_eq c.args.line.now (codes "Duplicate") ≡ false = sym c.reads-else-reads.ensures
    ∙ c.if-reads-2.false in
    let d : bytes_eq c.args.line.now (codes "Removed") ≡ false = sym c.reads-else-reads-2.ensures
    ∙ c.if-reads-3.false in
    let e : bytes_eq c.args.line.now (codes "Missing") ≡ false = sym c.reads-else-reads-3.ensures
    ∙ c.if-reads-4.false in
    let f : bytes_eq c.args.line.now (codes "Flat") ≡ false = sym c.reads-else-reads-4.ensures ∙ c.if-reads-5.false in
    let g : bytes_eq c.args.line.now (codes "Moved") ≡ false = sym c.reads-else-reads-5.ensures ∙ c.if-reads-6.false in
    let h : bytes_eq c.args.line.now (codes "Occupied") ≡ false = sym c.reads-else-reads-6.ensures
    ∙ c.if-reads-7.false in
    rw (a, b, d, e, f, g, h) refl

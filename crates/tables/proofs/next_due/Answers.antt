-- `tables::next_due` meets its contract.
use Rattle.std.specs.Prelude.{if◌then◌else◌, Some, None}
use Prim.Native.Nat.{ℕ}
use mathlib.Core.Path.{◌≡◌, sym, ◌∙◌}
use mathlib.Core.Bool.{Bool, true, false}
use mathlib.Core.List.{[]}
use lib.ListN.{get_or, get_or-eq_default}
use Rattle.rules.specs.Base.{Bytes}
use Rattle.text.specs.Text.{next_where}
use Rattle.tables.specs.Reading.{Guide, is_entry_row, next_due}
use Rattle.text.proofs.Where.{next_here, next_later, next_none}
use Rattle.tables.proofs.next_due.Invariants.{stops}
use Rattle.tables.proofs.next_due.Goals as goal

-- what stands there decides
due_at : (rows : Guide) (from : ℕ) (id : Bytes) {row : ℕ} (b : Bool) → next_where (stops id) rows from ≡ row → is_entry_row id (get_or rows row []) ≡ b
    → next_due rows from id ≡ (if b then Some row else None)
unfolding next_due
due_at rows from id b q e = rw (q, e)

pub returns-then-is_entry_row : goal.returns-then-is_entry_row
returns-then-is_entry_row c =
    let entry = sym c.is_entry_row.ensures ∙ c.if-is_entry_row.true in
    sym (due_at _ _ _ true (c.loop-k.invariant ∙ next_here (stops c.args.id.now) _ [] _ c.loop-k-test.true (rw entry)) entry)

pub returns-then-is_mandatory_row : goal.returns-then-is_mandatory_row
returns-then-is_mandatory_row c =
    let other = sym c.is_entry_row.ensures ∙ c.if-is_entry_row.false in
    let mandatory = sym c.is_mandatory_row.ensures ∙ c.if-is_mandatory_row.true in
    sym (due_at _ _ _ false (c.loop-k.invariant ∙ next_here (stops c.args.id.now) _ [] _ c.loop-k-test.true (rw (other, mandatory))) other)

pub loop-k-preserved : goal.loop-k-preserved
loop-k-preserved c =
    let other = sym c.is_entry_row.ensures ∙ c.if-is_entry_row.false in
    let optional = sym c.is_mandatory_row.ensures ∙ c.if-is_mandatory_row.false in
    c.loop-k.invariant ∙ next_later (stops c.args.id.now) _ [] _ c.loop-k-test.true (rw (other, optional))

pub returns : goal.returns
returns c =
    let none = c.loop-k-test.false in
    let a = c.args in
    sym (due_at _ _ _ false (c.loop-k.invariant ∙ next_none (stops a.id.now) _ [] _ none) (rw (get_or-eq_default a.guide.now [] none)))

-- `register::search` meets its contract: what is found from the slot that the search is at decides, and of two numbers the bytes that were compared.
use Prim.Native.Nat.{◌+◌, ◌-◌, ◌≤◌, ◌<◌}
use mathlib.Core.Path.{◌≡◌, sym, ◌∙◌}
use mathlib.Core.Bool.{Bool, true, false}
use borrow.Author.Rules.{rules}
use borrow.Author.Tests.{eq-eqb, ne_eqb}
use native.Mathlib.Omega.{arith}
use lib.Dec.{eqb}
use lib.ListN.{length, drop}
use Rattle.rules.specs.Base.{same}
use Rattle.register.specs.Fields.{field_in}
use Rattle.register.specs.Trees as trees
use Rattle.register.proofs.Fields.{value_longer, value_differs, value_turn, value_ends}
use Rattle.register.proofs.Trees.{bits_below, walk_ends, search_step}
use Rattle.register.proofs.search.Goals as goal
use Rattle.register.proofs.search.Goals.{After-bits_at, After-field_end}

-- a link has sixteen bits
small : (c : After-bits_at) → c.number_at-link.result < 65536
small c = rw c.number_at-link.ensures (search rules)

-- one turn: the number is that of the set, as q says
abbrev Turn : Bool → After-bits_at → Type 0
Turn q c =
    let a = c.args in
    let s = c.sets in
    let link = c.number_at-link.result in
    trees.search a.d a.body.now a.first a.starts.now a.links.now a.control.now
    ≡ trees.found_at false q s.slot (trees.walk (65536 - (s.i + 1)) a.d a.body.now a.first a.starts.now a.links.now a.control.now (trees.slot_of (link - 1) c.bits_at.result) link (s.i + 1))

turn : (q : Bool) (c : After-bits_at) → same c.args.control.now (field_in c.args.d 0 (drop c.control_start-start.result c.args.body.now)) ≡ q → Turn q c
turn q c e =
    c.sets.invariant.1
    ∙ search_step _ _ _ _ _ _ _ q (small c) c.sets.invariant.0 c.if-link-last.false c.number_at-link.ensures c.bits_at.ensures c.number_at.ensures (sym c.control_start-start.ensures.1) e

-- the search goes on after a set with another number
abbrev Goes : After-bits_at → Type 0
Goes c =
    let a = c.args in
    let s = c.sets in
    let link = c.number_at-link.result in
    (s.i + 1 ≤ link) × (trees.search a.d a.body.now a.first a.starts.now a.links.now a.control.now ≡ trees.walk (65536 - (s.i + 1)) a.d a.body.now a.first a.starts.now a.links.now a.control.now (trees.slot_of (link - 1) c.bits_at.result) link (s.i + 1)) × (a.first ≤ link)

goes : (c : After-bits_at) → same c.args.control.now (field_in c.args.d 0 (drop c.control_start-start.result c.args.body.now)) ≡ false → Goes c
goes c e = (omega arith, turn false c e, omega (arith, c.sets.invariant.2))

-- all bytes are those of the number: it is the same where the field ends after them
compared : (c : After-field_end)
    → same c.args.control.now (field_in c.args.d 0 (drop c.control_start-start.result c.args.body.now)) ≡ eqb c.field_end.result (c.control_start-start.result + length c.args.control.now)
compared c =
    let a = c.args in
    rw c.field_end.ensures (value_ends a.d a.body.now c.control_start-start.result a.control.now _ c.loop-j-test.false c.loop-j.invariant.1)

pub sets-init : goal.sets-init
unfolding trees.search
sets-init c = search rules

pub overflow_add-slot-in-sets : goal.overflow_add-slot-in-sets
overflow_add-slot-in-sets c =
    let before = (goal.at.overflow_add-slot-in-sets c).After-bits_at in
    omega (arith, small before, bits_below c.args.control.now c.sets.i)

pub sets-preserved-then-body-start : goal.sets-preserved-then-body-start
sets-preserved-then-body-start c =
    goes (goal.at.sets-preserved-then-body-start c).After-bits_at (value_longer _ _ _ _ c.if-body-start.true)

pub sets-preserved-then-body-start-2 : goal.sets-preserved-then-body-start-2
sets-preserved-then-body-start-2 c =
    goes (goal.at.sets-preserved-then-body-start-2 c).After-bits_at (value_differs _ _ _ _ (c.loop-j.j - 1) (omega arith) c.if-body-start-2.true)

pub loop-j-preserved : goal.loop-j-preserved
loop-j-preserved c = (omega arith, value_turn c.args.d _ _ _ c.loop-j.j (c.loop-j.j - 1) (omega arith) (omega arith) c.if-body-start.false c.if-body-start-2.false c.loop-j.invariant.1)

pub sets-preserved : goal.sets-preserved
sets-preserved c =
    let at = goal.at.sets-preserved c in
    goes at.After-bits_at (compared at.After-field_end ∙ ne_eqb _ _ c.if-field_end-start.false)

pub returns-then-link-last : goal.returns-then-link-last
returns-then-link-last c = sym (c.sets.invariant.1 ∙ walk_ends _ _ _ _ _ _ _ _ _ _ (rw c.number_at-link.ensures at c.if-link-last.true))

pub returns : goal.returns
returns c =
    let at = goal.at.returns c in
    sym (turn true at.After-bits_at (compared at.After-field_end ∙ eq-eqb _ _ c.if-field_end-start.true))

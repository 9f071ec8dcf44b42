-- The demands over `acknowledge`: what holds of any answer and any buffer that its contract allows.
use mathlib.Core.Path.{◌≡◌, refl, sym, ap, ◌∙◌, subst}
use mathlib.Core.Bool.{Bool, true, false}
use mathlib.Core.List.{List, ◌++◌}
use Prim.Native.Nat.{◌≤◌, ◌<◌}
use native.Mathlib.Omega.{arith}
use borrow.Author.Tests.{ne_eqb, le-leb, lt-leb}
use lib.Dec.{leb, eqb}
use lib.ListN.{length, drop}
use Rattle.rules.specs.Base.{Bytes}
use Rattle.rules.specs.Cutting.{delimiters}
use Rattle.rules.specs.Groups.{Group}
use Rattle.rules.specs.Refusals.{refusal}
use Rattle.rules.specs.Response.{out, response}
use Rattle.rules.specs.Answers.{functional_acknowledgment, Allowed, answer, outcome, called, number, buffer, Answer}
use Rattle.rules.specs.Damage.{DamagedGroups, groups_in, rebuilt, opening, closing, acknowledgments_in, joined, Stays}
use Rattle.rules.specs.declared.Call.{Call}
use Rattle.rules.specs.Refused.{refused as refusal_of}
use Rattle.rules.proofs.Facts.{allowed_outcome, functional_numbered, numbered_refusal}
use Rattle.rules.proofs.Damage.{response_parts, one_spoiled}
use Rattle.acknowledgment.proofs.acknowledge.Reads as acknowledge

-- 0. The contract of the code, read off it.
-- Nothing is asked of a caller. Shut out: a `requires`, by which a call would go without an answer.
pub asks_nothing : (κs : _) (a : _) → acknowledge.Pre κs a
asks_nothing κs a = tt

-- What comes back is allowed. Shut out: a weaker `ensures`.
pub allows : (κs : _) (a : _) (r : _) (s : _) → acknowledge.Post κs a r s
    → Allowed (functional_acknowledgment a.0.now a.1.1.0) a.1.0.now r s.1.0.now
allows κs a r s p = p

-- All that a caller sees is the outcome of the law. Shut out: any other number, length or byte.
pub calls : (κs : _) (a : _) (r : _) (s : _) → acknowledge.Post κs a r s
    → outcome r s.1.0.now ≡ called (functional_acknowledgment a.0.now a.1.1.0) a.1.0.now
calls κs a r s p = allowed_outcome (functional_acknowledgment a.0.now a.1.1.0) a.1.0.now r (functional_numbered a.0.now a.1.1.0) p

module _ (i lent : Bytes) (call : Call) (a : Answer) (left : Bytes) (p : Allowed (functional_acknowledgment i call) lent a left) where
  -- 1. A refusal gives its number and the length 0, and every byte of the buffer is as lent. Shut out: a refusal that is none of 01's, and one
  -- that writes.
  pub refused : (refusal i call ≡ 0 → ⊥)
      → outcome a left ≡ record { number = refusal i call; size = 0; buffer = lent }
  unfolding called
  refused h = allowed_outcome (functional_acknowledgment i call) lent a (functional_numbered i call) p ∙ rw (ne_eqb _ 0 h)

  -- 2. Without a refusal the response of document 01 stands at the start of the buffer, with its length, and every byte after it is as lent.
  -- Shut out: refusing everything, doing nothing, and one fixed 997.
  pub answered : refusal i call ≡ 0 → length (response i call) ≤ length lent
      → outcome a left
      ≡ record {
        number = 0;
        size = length (response i call);
        buffer = response i call ++ drop (length (response i call)) lent;
      }
  unfolding Allowed answer
  answered e fits = rw (p.1, p.0, e, le-leb _ _ fits)

  -- Where it does not fit, the number is 14, the length the one that is needed, and the buffer is as lent. Shut out: writing what fits.
  pub too_long : refusal i call ≡ 0 → length lent < length (response i call)
      → outcome a left ≡ record { number = 14; size = length (response i call); buffer = lent }
  unfolding Allowed answer
  too_long e h = rw (p.1, p.0, e, lt-leb _ _ h)

  -- An answer with the number 0 is the response. Shut out: the number 0 for something else.
  pub is_response : number a ≡ 0 → left ≡ response i call ++ drop (length (response i call)) lent
  unfolding Allowed answer
  is_response e = p.1 ∙ go (eqb (refusal i call) 0) refl (leb (length (response i call)) (length lent)) refl
    where
      e' : number (answer (functional_acknowledgment i call) (length lent)) ≡ 0
      e' = ap number (sym p.0) ∙ e

      go : (b : Bool) → eqb (refusal i call) 0 ≡ b → (c : Bool) → leb (length (response i call)) (length lent) ≡ c
          → buffer a (response i call) lent ≡ response i call ++ drop (length (response i call)) lent
      go true q true k = rw (p.0, q, k)
      go true q false k = absurd (omega (arith, rw (q, k) at e'))
      go false q c k = absurd (numbered_refusal (refusal_of (refusal i call)) (rw q at e'))

-- 3. One spoiled set stays one spoiled set: two calls, before and after any sets of any groups got other segments between header and trailer.
-- the bytes of a buffer after a response to i: what precedes the 997s, the 997s of the groups, what follows them, and what was lent
abbrev pub in_parts : Bytes → Bytes → Call → Bytes
in_parts i lent call =
    out (delimiters i) (opening i call) ++ joined (acknowledgments_in i) ++ out (delimiters i) (closing i call)
    ++ drop (length (response i call)) lent

-- the same after a response to j, which is i with other segments in some of its sets: what stands around the 997s is as for i
abbrev pub in_parts_since : Bytes → Bytes → Bytes → Call → Bytes
in_parts_since i j lent call =
    out (delimiters i) (opening i call) ++ joined (acknowledgments_in j) ++ out (delimiters i) (closing i call)
    ++ drop (length (response j call)) lent

-- what stays after two calls, on i and on j, which is i with the groups after
pub record OneSpoiled (i j : Bytes) (after : List Group) (lent lent' : Bytes) (call : Call) (a' : Answer) (left left' : Bytes) : Type 0 where
  pub answered : number a' ≡ 0
  pub before : left ≡ in_parts i lent call
  pub since : left' ≡ in_parts_since i j lent' call
  pub stays : Stays i j lent' after call

-- Demand 3 over what is allowed. Shut out: a damaged set that has the whole interchange refused.
pub spoiled : (i lent lent' : Bytes) (call : Call) (a a' : Answer) (left left' : Bytes)
    → Allowed (functional_acknowledgment i call) lent a left → number a ≡ 0
    → (after : List Group) → DamagedGroups (delimiters i) (groups_in i) after → length (rebuilt i after) ≤ 65536
    → Allowed (functional_acknowledgment (rebuilt i after) call) lent' a' left' → length (response (rebuilt i after) call) ≤ length lent'
    → OneSpoiled i (rebuilt i after) after lent lent' call a' left left'
unfolding Allowed
spoiled i lent lent' call a a' left left' p e after damaged short q fits =
    let s = one_spoiled i lent call (ap number (sym p.0) ∙ e) after damaged short lent' fits in
    record {
      answered = ap number q.0 ∙ s.answered;
      before =
          is_response i lent call a left p e
          ∙ ap (λ (l : Bytes). l ++ drop (length (response i call)) lent) (response_parts i call);
      since = q.1 ∙ ap (λ (x : Answer). buffer x (response (rebuilt i after) call) lent') q.0 ∙ s.written;
      stays = s;
    }

-- Demand 3 over two calls of `acknowledge`: the first on i, the second on i with other segments in some sets of any of its groups, by the same
-- numbers. Shut out: a program in which a set's report depends on what stands inside another set, a group's codes on what stands inside any, or
-- a 997 on what stands in another group.
pub spoiled_calls : (κs : _) (a : _) (r : _) (s : _) → acknowledge.Post κs a r s → number r ≡ 0
    → (after : List Group) → DamagedGroups (delimiters a.0.now) (groups_in a.0.now) after → length (rebuilt a.0.now after) ≤ 65536
    → (κs' : _) (a' : _) (r' : _) (s' : _) → acknowledge.Post κs' a' r' s' → a'.0.now ≡ rebuilt a.0.now after → a'.1.1.0 ≡ a.1.1.0
    → length (response (rebuilt a.0.now after) a.1.1.0) ≤ length a'.1.0.now
    → OneSpoiled a.0.now (rebuilt a.0.now after) after a.1.0.now a'.1.0.now a.1.1.0 r' s.1.0.now s'.1.0.now
spoiled_calls κs a r s p e after damaged short κs' a' r' s' q same_bytes same-call fits =
    let second =
    subst (λ (c : Call). Allowed (functional_acknowledgment (rebuilt a.0.now after) c) a'.1.0.now r' s'.1.0.now) same-call
    (subst (λ (j : Bytes). Allowed (functional_acknowledgment j a'.1.1.0) a'.1.0.now r' s'.1.0.now) same_bytes (allows κs' a' r' s' q)) in
    spoiled a.0.now a.1.0.now a'.1.0.now a.1.1.0 r r' s.1.0.now s'.1.0.now
    (allows κs a r s p) e after damaged short second fits

-- Each group of an answered interchange, alone in its interchange, gets the same 997 but for ST02 and SE02: two calls, on the interchange and on
-- the group alone, with the same date, time and control number.
use mathlib.Core.Path.{◌≡◌, sym, ap, ◌∙◌}
use mathlib.Core.List.{[], ◌∷◌, ◌++◌}
use Prim.Native.Nat.{ℕ, ◌+◌, ◌≤◌, ◌<◌}
use lib.ListN.{length, drop, get_or}
use Rattle.rules.specs.Base.{Bytes}
use Rattle.rules.specs.Cutting.{delimiters, isa}
use Rattle.rules.specs.Groups.{Group}
use Rattle.rules.specs.Refusals.{refusal}
use Rattle.rules.specs.Response.{out, isa_out, gs_out, ge_out, iea_out, response}
use Rattle.rules.specs.Answers.{functional_acknowledgment, number, Outcome, outcome, called}
use Rattle.rules.specs.Damage.{groups_in, acknowledgment_of}
use Rattle.rules.specs.declared.Call.{Call}
use Rattle.rules.proofs.Envelope.{clear}
use Rattle.rules.proofs.Placed.{up_to_group, beyond_group, response_at}
use Rattle.rules.proofs.Alone.{alone, SameBut, same_alone, same_length, clear_alone, response_alone}
use Rattle.promises.proofs.Shown as shown
use Rattle.promises.proofs.Demands.{calls}
use Rattle.promises.proofs.Spoiling.{call_of}
use Rattle.acknowledgment.proofs.acknowledge.Reads as acknowledge
use Rattle.x12.proofs.x12_acknowledge.Reads as x12_acknowledge

-- what holds of the outcome o of a call on i and the outcome o' of a call on the group g alone, which is group k of i, counted from 0
pub record StandsAlone (i : Bytes) (k : ℕ) (g : Group) (lent lent' : Bytes) (call : Call) (o o' : Outcome) : Type 0 where
  -- alone it meets none of 1 to 13: shut out is a program that takes a group only beside others
  pub clear : refusal (alone i g) call ≡ 0
  -- so the second call is answered where its response fits
  pub answered : length (response (alone i g) call) ≤ length lent' → o'.number ≡ 0
  -- the first buffer has the 997 of group k, with the number k + 1, after the opening and the 997s before it
  pub among : o.buffer
      ≡ up_to_group i call k ++ acknowledgment_of (delimiters i) (k + 1) g ++ beyond_group i call k ++ drop (length (response i call)) lent
  -- the second then has ISA, GS by that group, its 997 with the number 1, GE and IEA
  pub by_itself : length (response (alone i g) call) ≤ length lent' → o'.buffer
      ≡ out (delimiters i) (isa_out (delimiters i) (isa i) call ∷ gs_out g.header call ∷ [])
      ++ acknowledgment_of (delimiters i) 1 g
      ++ out (delimiters i) (ge_out 1 call.control ∷ iea_out 1 call.control ∷ [])
      ++ drop (length (response (alone i g) call)) lent'
  -- the two 997s have the same bytes but for ST02 and SE02, and the same length: shut out is a 997 that depends on another group, as one that looks
  -- for its ST02 in the groups before it, or counts their segments in SE01
  pub same : SameBut (delimiters i) (k + 1) 1 (acknowledgment_of (delimiters i) (k + 1) g) (acknowledgment_of (delimiters i) 1 g)
  pub same_size : length (acknowledgment_of (delimiters i) (k + 1) g) ≡ length (acknowledgment_of (delimiters i) 1 g)

module _ (i lent : Bytes) (call : Call) {o : Outcome} (p : o ≡ called (functional_acknowledgment i call) lent) (e : o.number ≡ 0) (k : ℕ) (w : Group)
    (h : k < length (groups_in i)) where
  -- the first call is answered: there is no refusal, and the response fits
  wrote : (refusal i call ≡ 0) × (length (response i call) ≤ length lent)
  wrote = shown.written (functional_acknowledgment i call) lent (ap (λ (o : Outcome). o.number) (sym p) ∙ e)

  stands : {lent' : Bytes} {o' : Outcome} (j : Bytes) → j ≡ alone i (get_or (groups_in i) k w) → o' ≡ called (functional_acknowledgment j call) lent'
      → StandsAlone i k (get_or (groups_in i) k w) lent lent' call o o'
  stands {lent'} {o'} j same_bytes q =
      let d = delimiters i in
      let g = get_or (groups_in i) k w in
      let second = q ∙ ap (λ (j : Bytes). called (functional_acknowledgment j call) lent') same_bytes in
      let c = clear_alone i call wrote.0 k w h in
      let answer = shown.answered (functional_acknowledgment i call) lent wrote.0 wrote.1 in
      let answer' = shown.answered (functional_acknowledgment (alone i g) call) lent' c in
      record {
        clear = c;
        answered = λ fits. ap (λ (o : Outcome). o.number) (second ∙ answer' fits);
        among =
            ap (λ (o : Outcome). o.buffer) (p ∙ answer)
            ∙ ap (λ (r : Bytes). r ++ drop (length (response i call)) lent) (response_at i call k w h);
        by_itself = λ fits.
            ap (λ (o : Outcome). o.buffer) (second ∙ answer' fits)
            ∙ ap (λ (r : Bytes). r ++ drop (length (response (alone i g) call)) lent') (response_alone i call (clear i call wrote.0).passed k w h);
        same = same_alone d (k + 1) g;
        same_size = same_length (same_alone d (k + 1) g);
      }

-- Two calls of the Rattle function, with the same date, time and control number. Shut out: a program that refuses a group alone, or tells otherwise
-- of it.
pub acknowledge_alone : (κs : _) (a : _) (r : _) (s : _) → acknowledge.Post κs a r s → number r ≡ 0
    → (k : ℕ) (w : Group) → k < length (groups_in a.0.now)
    → (κs' : _) (a' : _) (r' : _) (s' : _) → acknowledge.Post κs' a' r' s'
    → a'.0.now ≡ alone a.0.now (get_or (groups_in a.0.now) k w) → a'.1.1.0 ≡ a.1.1.0
    → StandsAlone a.0.now k (get_or (groups_in a.0.now) k w) a.1.0.now a'.1.0.now a.1.1.0
    (outcome r s.1.0.now) (outcome r' s'.1.0.now)
acknowledge_alone κs a r s p e k w h κs' a' r' s' q same_bytes same-call =
    stands a.0.now a.1.0.now a.1.1.0 (calls κs a r s p) e k w h a'.0.now same_bytes
    (calls κs' a' r' s' q ∙ ap (λ (c : Call). called (functional_acknowledgment a'.0.now c) a'.1.0.now) same-call)

-- Two calls of the function for C. Shut out: the same programs behind it.
pub x12_acknowledge_alone : (κs : _) (a : _) (r : _) (s : _) → x12_acknowledge.Post κs a r s → r ≡ 0
    → (k : ℕ) (w : Group) → k < length (groups_in a.0.now)
    → (κs' : _) (a' : _) (r' : _) (s' : _) → x12_acknowledge.Post κs' a' r' s'
    → a'.0.now ≡ alone a.0.now (get_or (groups_in a.0.now) k w)
    → call_of a'.1.1.0 a'.1.1.1.0 a'.1.1.1.1.0 ≡ call_of a.1.1.0 a.1.1.1.0 a.1.1.1.1.0
    → StandsAlone a.0.now k (get_or (groups_in a.0.now) k w) a.1.0.now a'.1.0.now
    (call_of a.1.1.0 a.1.1.1.0 a.1.1.1.1.0)
    (record { number = r; size = s.1.1.1.1.1.0.now; buffer = s.1.0.now })
    (record { number = r'; size = s'.1.1.1.1.1.0.now; buffer = s'.1.0.now })
x12_acknowledge_alone κs a r s p e k w h κs' a' r' s' q same_bytes same-call =
    stands a.0.now a.1.0.now (call_of a.1.1.0 a.1.1.1.0 a.1.1.1.1.0) p e k w h a'.0.now same_bytes
    (q ∙ ap (λ (c : Call). called (functional_acknowledgment a'.0.now c) a'.1.0.now) same-call)

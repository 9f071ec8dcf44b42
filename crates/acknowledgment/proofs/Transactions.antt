-- One 997: what comes before the blocks of the sets, the blocks, and what comes after them.
use Prim.Native.Nat.{ℕ, ◌+◌, ◌-◌, ◌≤◌, ◌<◌}
use mathlib.Core.Path.{◌≡◌, refl, ap, ◌∙◌, fun_ext}
use mathlib.Core.Bool.{Bool}
use mathlib.Core.List.{List, [], ◌∷◌, ◌++◌, append_assoc}
use Rattle.std.specs.Prelude.{Option, Some}
use Rattle.std.specs.Bool.{then_some}
use native.Mathlib.Omega.{arith}
use lib.ListN.{length, get_or, set, length-append, length-take, length-drop}
use Rattle.rules.specs.Base.{Bytes, ascii}
use Rattle.rules.specs.Cutting.{Segment, field, split, segments}
use Rattle.rules.specs.Numbers.{padded}
use Rattle.rules.specs.Tables.{Table}
use Rattle.rules.specs.Sets.{Set, sets_of}
use Rattle.rules.specs.Groups.{Group, GroupReport, group_report, sets, table_in, set_reports, accepted_in}
use Rattle.rules.specs.Response.{segment_out, out, ak1, ak9, blocks, st_out, se_out, told, transaction_set}
use Rattle.rules.specs.Damage.{acknowledgment_of}
use Rattle.rules.specs.declared.Delimiters.{Delimiters}
use Rattle.rules.proofs.Alone.{same_length, same_alone}
use Rattle.rules.proofs.Bound.{transaction_bound}
use Rattle.rules.proofs.Facts.{reports_count}
use Rattle.rules.proofs.Lengths.{transaction_counted, length_out_append}
use Rattle.guides.specs.Choice.{scope_in}
use Rattle.guides.specs.declared.Scope.{Scope}
use Rattle.guides.specs.Encoded.{directory_rows}
use Rattle.guides.proofs.Chosen.{all_rows, table_chosen, table_stands, table_orderly}
use Rattle.text.specs.Text.{part}
use Rattle.envelope.specs.declared.GroupAt.{GroupAt}
use Rattle.envelope.specs.Places.{end_of, group_at, group_ending, next_group}
use Rattle.envelope.proofs.Laws.{next_found, group_again}
use Rattle.register.proofs.Entered.{Linked}
use Rattle.tables.specs.Reading.{Guide}
use Rattle.verdicts.specs.Verdicts.{trailer_if, summary_by, summary_of, summary_out}
use Rattle.verdicts.specs.declared.Summary.{Summary}
use Rattle.verdicts.specs.declared.Tally.{Tally}
use Rattle.verdicts.proofs.Laws.{group_codes_lem, verdict_byte}
use Rattle.writing.specs.Over.{sat, From}
use Rattle.writing.proofs.Laws.{seq}
use Rattle.writing.proofs.Segments.{one, then as onward}
use Rattle.notes.specs.declared.Told.{Told}
use Rattle.acknowledgment.specs.declared.set_block.Mark.{Mark}
use Rattle.acknowledgment.specs.declared.set_block.Mark.TheVariants.{GroupEnd}
use Rattle.acknowledgment.specs.Writers.{Measures, beginning, ending}
use Rattle.acknowledgment.specs.Received.{Scoped, Ordered, table_by}
use Rattle.acknowledgment.specs.Surveys.{reports, Looked, Surveyed, Open, Cleared, tally_of}
use Rattle.acknowledgment.specs.Entries.{body_of, table_of, transaction_of, Answerable, GroupEntries, Surveyable, SurveyedGroup}
use Rattle.acknowledgment.specs.declared.survey.Survey.{Survey}
use Rattle.acknowledgment.proofs.Blocks.{trailer_by}
use Rattle.acknowledgment.proofs.Recorded.{tally_is, group_ended}

-- 1. Parts of a text: their length, and two segments one after the other.
pub length_made : (d : Delimiters) (before ss after : List Segment) {n b m r : ℕ} → n ≡ sat (0 + length (out d before)) → b ≡ sat (length (out d ss))
    → m ≡ sat (n + b) → r ≡ sat (m + length (out d after)) → r ≡ sat (length (out d (before ++ (ss ++ after))))
length_made d before ss after p q e f = simp (length_out_append d) (omega arith)

pub two : (d : Delimiters) (s₁ s₂ : Segment) {n n₁ n₂ : ℕ} {o o₁ o₂ : Bytes}
    → From n (segment_out d s₁) n₁ o o₁ → From n₁ (segment_out d s₂) n₂ o₁ o₂ → From n (out d (s₁ ∷ s₂ ∷ [])) n₂ o o₂
unfolding out
two d s₁ s₂ a b = seq a (one d s₂ b)

-- 2. The group, by the bytes of its GS, its body and its GE.
group_at_lem : (d : Delimiters) (i : Bytes) (g : GroupAt) {gs body ge : Bytes}
    → gs ≡ part i g.gs g.gs_end → body ≡ part i g.body g.body_end → ge ≡ part i g.body_end g.ge_end
    → group_at d i g
    ≡ record { header = split d.element gs; body = segments d body; trailer = trailer_if d.element (then_some g.closed ge) }
group_at_lem d i g p q r = rw (p, q, r, trailer_by)

-- ST to AK9, by the reports of the sets and their numbers
told_is : (d : Delimiters) (st02 : Bytes) (g : Group) {table : Set → Option Table} (n : Tally) {scope : Scope} → scope ≡ scope_in g.header → table_in g.header ≡ table
    → n.received ≡ length (set_reports d table [] (sets g)) → n.accepted ≡ accepted_in (set_reports d table [] (sets g))
    → told st02 (group_report d g)
    ≡ st_out st02 ∷ ((ascii "AK1" ∷ field g.header 1 ∷ field g.header 6 ∷ [])
    ∷ (blocks (set_reports d table [] (sets g)) ++ summary_out (summary_of scope g.header g.trailer n) ∷ []))
unfolding told ak1 ak9 group_report summary_of summary_by
told_is d st02 g {table} n k e p q = rw (k, e, q, p, reports_count d table [] (sets g), group_codes_lem g refl refl refl, verdict_byte)

-- 3. Its 997.
module _ (d : Delimiters) (i : Bytes) (g : GroupAt) {gs body ge : Bytes} {tally : Tally} {scope : Scope} {summary : Summary}
    (short : length i ≤ 65536)
    (p : gs ≡ part i g.gs g.gs_end) (q : body ≡ part i g.body g.body_end) (r : ge ≡ part i g.body_end g.ge_end)
    (k : scope ≡ scope_in (split d.element gs))
    (received : tally.received ≡ length (reports d (table_of d i g) body)) (allowed : tally.accepted ≡ accepted_in (reports d (table_of d i g) body))
    (u : summary ≡ summary_of scope (split d.element gs) (trailer_if d.element (then_some g.closed ge)) tally) where
  abbrev set_blocks : List Segment
  set_blocks = blocks (reports d (table_of d i g) body)

  abbrev report : GroupReport
  report = group_report d (group_at d i g)

  tables : table_in (split d.element gs) ≡ table_of d i g
  tables = rw p (fun_ext (table_chosen _))

  -- ST to AK9, as the pieces are
  told_made : (n : ℕ) → told (padded 4 n) report
      ≡ st_out (padded 4 n) ∷ ((ascii "AK1" ∷ field (split d.element gs) 1 ∷ field (split d.element gs) 6 ∷ []) ∷ (set_blocks ++ summary_out summary ∷ []))
  told_made n =
      ap (λ (g : Group). told (padded 4 n) (group_report d g)) (group_at_lem d i g p q r)
      ∙ rw u (told_is d (padded 4 n) _ tally k tables received allowed)

  bounded : (n : ℕ) → length (out d (transaction_of d i g n)) < 4398046511104
  bounded n =
      rw (group_at_lem d i g p q r)
      (transaction_bound d n gs body _ (rw p (simp (length-take, length-drop) (omega arith))) (rw q (simp (length-take, length-drop) (omega arith))))

  -- SE01 is exact: segments are no more than their bytes, which a usize counts
  told_counts : (n : ℕ) {m : ℕ} → m ≡ sat (length set_blocks) → sat (m + 4) ≡ length (told (padded 4 n) report) + 1
  unfolding transaction_set
  told_counts n e =
      omega (
        arith,
        e,
        bounded n,
        transaction_counted d (padded 4 n) report,
        length-append (told (padded 4 n) report) (se_out (length (told (padded 4 n) report) + 1) (padded 4 n) ∷ []),
        ap length (told_made n),
        length-append set_blocks (summary_out summary ∷ []),
      )

  -- what comes before the blocks, the blocks, and what comes after them
  transaction_is : (n : ℕ) {m : ℕ} → m ≡ sat (length set_blocks)
      → out d (beginning (split d.element gs) n ++ (set_blocks ++ ending summary (sat (m + 4)) n)) ≡ out d (transaction_of d i g n)
  unfolding transaction_set beginning ending
  transaction_is n e = rw (told_counts n e, told_made n) (ap (out d) (simp append_assoc))

  -- so they are as long as it is, whatever its number is
  pub transaction_measured : {b : Told} {l : ℕ} → Measures d set_blocks b
      → ((ss : List Segment) → Measures d ss b
      → l ≡ sat (length (out d (beginning (split d.element gs) 1 ++ (ss ++ ending summary (sat (b.segments + 4)) 1)))))
      → (n : ℕ) → l ≡ sat (length (out d (transaction_of d i g n)))
  unfolding acknowledgment_of
  transaction_measured m e n = rw (same_length (same_alone d n (group_at d i g)), ← transaction_is 1 m.number) (e set_blocks m)

  -- and written one after the other they are it
  pub transaction_written : (n : ℕ) {m n₀ n₁ n₂ n₃ : ℕ} {o o₁ o₂ o₃ : Bytes} → m ≡ sat (length set_blocks)
      → From n₀ (out d (beginning (split d.element gs) n)) n₁ o o₁ → From n₁ (out d set_blocks) n₂ o₁ o₂
      → From n₂ (out d (ending summary (sat (m + 4)) n)) n₃ o₂ o₃ → From n₀ (out d (transaction_of d i g n)) n₃ o o₃
  transaction_written n e before blocks after = rw (← transaction_is n e) (onward d _ _ before (onward d _ _ blocks after))

-- 4. The look at the group.
-- the body lies in the interchange
pub body_long : (d : Delimiters) (i : Bytes) (g : GroupAt) → Answerable d i g → length (body_of i g) ≡ g.body_end - g.body
body_long d i g a = simp (length-take, length-drop) (omega (arith, a.ordered, a.inside))

module _ {d : Delimiters} {i : Bytes} {g : GroupAt} {valid : List Bool} {ids : List (List ℕ)} {rows : Guide} {first : ℕ} {starts : List ℕ} {marks : List Mark} {links : List ℕ}
    (s : Surveyable d i g valid ids rows first starts marks links)
    {gs body : Bytes} {scope : Scope}
    (p : gs ≡ part i g.gs g.gs_end) (q : body ≡ part i g.body g.body_end) (k : scope ≡ scope_in (split d.element gs)) where
  -- what it asks of the body
  pub sets_open : (Open d body valid rows scope) × ((Ordered ids rows scope) × Cleared d body first starts marks links)
  sets_open = (
    record {
      bytes = s.bytes;
      apart = s.answerable.apart;
      passed = rw q s.answerable.passed;
      short = rw q (omega (arith, s.small));
      tables = rw (s.tables, k) (table_stands _);
    },
    (rw (s.directory, s.tables, k) (table_orderly _), rw q s.cleared),
  )

  pub body_small : length body < 65536
  body_small = rw q s.small

  module _ {survey : Survey} {starts' : List ℕ} {marks' : List Mark} {links' : List ℕ}
      (v : (Surveyed d (table_by ids rows scope) body starts' marks' survey) × Linked links' (first + survey.sets.received)) where
    surveyed : Surveyed d (table_of d i g) (body_of i g) starts' marks' survey
    surveyed = rw (s.directory, s.tables, k, p, q) at v.0

    pub sets_few : survey.sets.received < 65535
    sets_few = omega (arith, surveyed.looked.received, reports_count d (table_of d i g) [] (sets_of (segments d (body_of i g))), s.cleared.few)

    -- there is room for the entry after those of the sets
    pub entry_inside : length starts' ≡ length starts → length marks' ≡ length marks → (survey.sets.received < length starts') × (survey.sets.received < length marks')
    entry_inside ls lm =
        let few = surveyed.looked.received ∙ reports_count d (table_of d i g) [] (sets_of (segments d (body_of i g))) in
        (omega (arith, few, s.cleared.places), omega (arith, few, s.cleared.marked))

    pub surveyed_group : {ge : Bytes} {summary : Summary} {l : ℕ} → length starts' ≡ length starts → length marks' ≡ length marks → ge ≡ part i g.body_end g.ge_end
        → summary ≡ summary_of scope (split d.element gs) (trailer_if d.element (then_some g.closed ge)) survey.sets
        → ((ss : List Segment) → Measures d ss survey.blocks
        → l ≡ sat (length (out d (beginning (split d.element gs) 1 ++ (ss ++ ending summary (sat (survey.blocks.segments + 4)) 1)))))
        → SurveyedGroup d i g first (set starts' survey.sets.received (length body)) (set marks' survey.sets.received GroupEnd) links'
        (record { entries = survey.sets.received + 1; length = l })
    surveyed_group ls lm r u measured =
        let sv = surveyed in
        record {
          sets = survey.sets;
          recorded = rw q (group_ended s.answerable sv.looked sv.allowed sv.counted (entry_inside ls lm).0 (entry_inside ls lm).1);
          number = refl;
          linked = record {
            linked = λ t. omega (arith, v.1.linked t);
            unlinked = λ t h. v.1.unlinked t (omega arith);
          };
          length = transaction_measured d i g s.answerable.short p q r k (rw q sv.looked.received) (rw q sv.allowed) u (rw q sv.measured) measured;
        }

-- 5. Its 997 by its entries.
module _ {d : Delimiters} {i : Bytes} {g : GroupAt} {sets : Tally} {starts : List ℕ} {marks : List Mark} (e : GroupEntries d i g sets starts marks) where
  -- where the body ends, by the length of the body
  body_again : (at : ℕ) → next_group d i at ≡ Some g → end_of d i at + 1 + get_or starts sets.received 0 ≡ g.body_end
  body_again at f = omega (arith, e.ends, body_long d i g e.answerable, e.answerable.ordered, (next_found d i at f).body_after)

  -- where GS ends
  pub header_within : (at : ℕ) → next_group d i at ≡ Some g → end_of d i at + 1 ≤ 65536
  header_within at f = omega (arith, (next_found d i at f).body_after, e.answerable.ordered, e.answerable.inside, e.answerable.short)

  pub body_within : (at : ℕ) → next_group d i at ≡ Some g → end_of d i at + 1 + get_or starts sets.received 0 ≤ 65536
  body_within at f = omega (arith, body_again at f, e.answerable.inside, e.answerable.short)

  -- the group again, and its sets
  pub group_is : (at : ℕ) → next_group d i at ≡ Some g → {t : Tally} {end : ℕ} {h : GroupAt} → t ≡ tally_of marks → end ≡ end_of d i at
      → h ≡ group_ending d i at (end + 1 + get_or starts t.received 0) → (h ≡ g) × (t ≡ sets)
  group_is at f {t} x y z =
      let known : t ≡ sets = x ∙ tally_is e in
      (z ∙ rw (known, y, body_again at f) (group_again d i at f), known)

  module _ {gs body : Bytes} {scope : Scope} (p : gs ≡ part i g.gs g.gs_end) (q : body ≡ part i g.body g.body_end)
      (k : scope ≡ scope_in (split d.element gs)) {ids : List (List ℕ)} {rows : Guide} (x : ids ≡ directory_rows) (y : rows ≡ all_rows) where
    -- what the blocks of its sets ask for
    pub sets_looked : (Looked d (table_by ids rows scope) body starts marks sets.received) × Scoped rows scope
    sets_looked = (rw (x, y, k, p, q) e.looked, rw (y, k) (table_stands _))

    pub group_written : {ge : Bytes} {summary : Summary} (r : ge ≡ part i g.body_end g.ge_end) (n : ℕ) {m n₀ n₁ n₂ n₃ : ℕ} {o o₁ o₂ o₃ : Bytes}
        → summary ≡ summary_of scope (split d.element gs) (trailer_if d.element (then_some g.closed ge)) sets
        → m ≡ sat (length (blocks (reports d (table_by ids rows scope) body)))
        → From n₀ (out d (beginning (split d.element gs) n)) n₁ o o₁ → From n₁ (out d (blocks (reports d (table_by ids rows scope) body))) n₂ o₁ o₂
        → From n₂ (out d (ending summary (sat (m + 4)) n)) n₃ o₂ o₃ → From n₀ (out d (transaction_of d i g n)) n₃ o o₃
    group_written r n u m before blocks after =
        let t : table_by ids rows scope ≡ table_of d i g = rw (x, y, k, p) in
        transaction_written d i g e.answerable.short p q r k (rw q e.looked.received) (rw q e.allowed) u n (rw t at m) before (rw t at blocks) after

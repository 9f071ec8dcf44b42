-- The table that stands where a set's is sought is the one that document 01 gives it.
use Rattle.std.specs.Prelude.{if◌then◌else◌, is_none, Option, None, Some}
use mathlib.Core.Path.{◌≡◌, refl}
use mathlib.Core.Bool.{Bool, true, false, ◌&&◌, not}
use mathlib.Core.List.{◌++◌}
use lib.Dec.{lit≤}
use Rattle.rules.specs.Base.{Bytes, ascii, same}
use Rattle.rules.specs.Cutting.{Segment, field}
use Rattle.rules.specs.Tables.{Table, edition_table, set_table, table006010, table004010}
use Rattle.rules.specs.Sets.{Set}
use Rattle.rules.specs.Groups.{supported, edition, table_in}
use Rattle.rules.proofs.Open.{everything}
use Rattle.tables.specs.Reading.{Guide}
use Rattle.guides.specs.Encoded.{guide006010, guide004010, directory_rows}
use Rattle.guides.specs.Choice.{has_tables, edition_in, scope_in, place_in, place_of, rows_at, table_at, Stands, OrderlyAt}
use Rattle.guides.specs.declared.Edition.{Edition}
use Rattle.guides.specs.declared.Edition.TheVariants.{E006010, E004010, Other}
use Rattle.guides.specs.declared.TableAt.{TableAt}
use Rattle.guides.proofs.Editions.{means_006010, means_004010, limits_006010, limits_004010, orderly_006010, orderly_004010}

-- the rows of all tables
abbrev pub all_rows : Guide
all_rows = guide006010 ++ guide004010

first_rows : rows_at all_rows 0 20 ≡ guide006010
unfolding everything guide006010 guide004010
first_rows = refl

later_rows : rows_at all_rows 20 36 ≡ guide004010
unfolding everything guide006010 guide004010
later_rows = refl

-- the table of an edition
abbrev table_for : Edition → Option Table
table_for E006010 = Some table006010
table_for E004010 = Some table004010
table_for Other = None

edition_table_lem : (bs : Bytes) → edition_table bs ≡ table_for (edition_in bs)
unfolding edition_table edition_in
edition_table_lem bs = go (same bs (ascii "006010")) (same bs (ascii "004010"))
  where
    go : (p q : Bool) → (if p then Some table006010 else (if q then Some table004010 else None)) ≡ table_for (if p then E006010 else (if q then E004010 else Other))
    go true q = refl
    go false true = refl
    go false false = refl

-- there are tables for an edition that document 01 has one for
pub edition_known : (bs : Bytes) → has_tables (edition_in bs) ≡ not (is_none (edition_table bs))
edition_known bs = rw (edition_table_lem bs) (go (edition_in bs))
  where
    go : (e : Edition) → has_tables e ≡ not (is_none (table_for e))
    go E006010 = refl
    go E004010 = refl
    go Other = refl

-- what stands at the place of an edition is its table
stands_there : (e : Edition) → table_at directory_rows all_rows (place_in e) ≡ table_for e
stands_there E006010 = rw (first_rows, means_006010)
stands_there E004010 = rw (later_rows, means_004010)
stands_there Other = refl

-- a set has the table that document 01 gives it
pub table_chosen : (gs : Segment) (s : Set) → table_in gs s ≡ table_at directory_rows all_rows (place_of (scope_in gs) (field s.header 1))
unfolding table_in set_table scope_in place_of
table_chosen gs s =
    rw (edition_table_lem (edition gs), ← stands_there (edition_in (edition gs)))
    (go (supported gs) (same (field s.header 1) (ascii "990")) (place_in (edition_in (edition gs))))
  where
    go : (p q : Bool) (t : Option TableAt) → (if p then (if q then table_at directory_rows all_rows t else None) else None) ≡ table_at directory_rows all_rows (if p && q then t else None)
    go true true t = refl
    go true false t = refl
    go false q t = refl

edition_stands : (e : Edition) → Stands all_rows (place_in e)
unfolding everything guide006010 guide004010
edition_stands E006010 = record { ordered = lit≤ tt; within = lit≤ tt; limits = limits_006010 }
edition_stands E004010 = record { ordered = lit≤ tt; within = lit≤ tt; limits = limits_004010 }
edition_stands Other = tt

-- and it stands among the rows
pub table_stands : (gs : Segment) (st01 : Bytes) → Stands all_rows (place_of (scope_in gs) st01)
unfolding scope_in place_of
table_stands gs st01 = go (supported gs && same st01 (ascii "990")) (edition_in (edition gs))
  where
    go : (b : Bool) (e : Edition) → Stands all_rows (if b then place_in e else None)
    go true e = edition_stands e
    go false e = tt

-- every table is orderly by the directory
edition_orderly : (e : Edition) → OrderlyAt directory_rows all_rows (place_in e)
edition_orderly E006010 = rw first_rows orderly_006010
edition_orderly E004010 = rw later_rows orderly_004010
edition_orderly Other = tt

pub table_orderly : (gs : Segment) (st01 : Bytes) → OrderlyAt directory_rows all_rows (place_of (scope_in gs) st01)
unfolding scope_in place_of
table_orderly gs st01 = go (supported gs && same st01 (ascii "990")) (edition_in (edition gs))
  where
    go : (b : Bool) (e : Edition) → OrderlyAt directory_rows all_rows (if b then place_in e else None)
    go true e = edition_orderly e
    go false e = tt

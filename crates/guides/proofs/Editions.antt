-- The guides mean the tables of document 01, and keep what their readers may lean on. Nothing else opens them.
use mathlib.Core.Path.{◌≡◌, refl}
use lib.Dec.{lit≤}
use Rattle.rules.specs.Tables.{table006010, table004010}
use Rattle.tables.specs.Rows.{filled, kind_of, relation_of, codes_in, rows_in, syntax_in, entries_in, ids_in, table_of}
use Rattle.rules.proofs.Open.{everything}
use Rattle.tables.specs.Reading.{Limits, Orderly, ids_are_bytes, ids_differ, followed}
use Rattle.guides.specs.Encoded.{guide006010, guide004010, directory_rows}

-- what rows of numbers mean, and the definitions of document 01, opened at once
unfoldable meaning : Unit {0}
unfolding everything filled kind_of relation_of codes_in rows_in syntax_in entries_in ids_in table_of
meaning = tt

pub means_006010 : table_of directory_rows guide006010 ≡ table006010
unfolding meaning directory_rows guide006010
means_006010 = refl

pub means_004010 : table_of directory_rows guide004010 ≡ table004010
unfolding meaning directory_rows guide004010
means_004010 = refl

pub limits_006010 : Limits guide006010
unfolding meaning guide006010 ids_are_bytes
limits_006010 = record { begins = refl; few = lit≤ tt; ids = refl }

pub limits_004010 : Limits guide004010
unfolding meaning guide004010 ids_are_bytes
limits_004010 = record { begins = refl; few = lit≤ tt; ids = refl }

pub orderly_006010 : Orderly directory_rows guide006010
unfolding meaning directory_rows guide006010 ids_differ followed
orderly_006010 = record { known = refl; differ = refl; few = refl; named = refl; last = refl }

pub orderly_004010 : Orderly directory_rows guide004010
unfolding meaning directory_rows guide004010 ids_differ followed
orderly_004010 = record { known = refl; differ = refl; few = refl; named = refl; last = refl }

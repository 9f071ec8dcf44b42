pub mod OtherTable

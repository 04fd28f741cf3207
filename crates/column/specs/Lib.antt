pub mod Column
pub mod ColumnLaws

pub mod RecordsLaws
pub mod ColumnsLaws
pub mod MacroblocksLaws
pub mod Memory
pub mod SizesLaws

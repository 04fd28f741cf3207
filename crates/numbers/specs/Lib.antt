-- Numbers, lists and tables, by topic.
-- tests, products and powers
pub mod Tests
pub mod Flags
pub mod Powers
-- signed numbers: bounds, parts, and the interval evaluator
pub mod In
pub mod Parts
pub mod Order
pub mod Know
pub mod Eval
pub mod Hand
pub mod Narrow
pub mod Bounds
pub mod Floor
-- lists and tables
pub mod Lists
pub mod Runs
pub mod Stores
pub mod StoresLaws
pub mod Tables
-- the functions of src/: definitions, and laws that callers cite
pub mod Clamp
pub mod ClampLaws
pub mod Wrap
pub mod WrapLaws
pub mod Checked
-- all that other crates name of them, and of the kit
pub mod Words

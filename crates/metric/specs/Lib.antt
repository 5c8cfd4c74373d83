pub mod Next
pub mod Sums
pub mod Colours
pub mod Leaf

pub mod Ends
pub mod LayoutLaws
pub mod CuttingLaws
pub mod Growth

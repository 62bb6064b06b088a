pub mod TableLaws
pub mod WalkTable
pub mod Walking
pub mod SlotsTable
pub mod ClaimLaws
pub mod OwnerNumberLaws
pub mod OwnerNumberTable
pub mod MaskLaws

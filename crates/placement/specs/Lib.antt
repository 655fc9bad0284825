-- Document 01, "Placement", as definitions, in the order of the document.
pub mod Core
pub mod Order
pub mod Choice
pub mod Placement
pub mod Figures
pub mod Computed

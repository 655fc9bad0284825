-- Laws of document 01, "Placement".
pub mod Apart
pub mod Fit
pub mod Order
pub mod Core
pub mod PlacesOn
pub mod FiguresFrom
pub mod Moment
pub mod Certified
pub mod Determined
pub mod Preferred
pub mod Step
pub mod Computed

pub mod Planned
pub mod PlanLaws
pub mod Numbers
pub mod Kinds
pub mod Walks
pub mod KindNumbers
pub mod Refusals

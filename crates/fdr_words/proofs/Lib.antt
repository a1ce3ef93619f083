pub mod UsesSteps
pub mod Moving
pub mod Placed
pub mod ClapSteps
pub mod ClapWalk
pub mod ClapLaws

pub mod Rules
pub mod RuleAnswers
pub mod RuleFaults
pub mod Exceedances
pub mod Lines
pub mod Windows
pub mod Watching
pub mod View

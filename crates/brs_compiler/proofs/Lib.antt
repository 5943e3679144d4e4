pub mod RuleParts
pub mod RuleForms
pub mod RuleStatements
pub mod RuleFunctions
pub mod RuleFiles
pub mod Compiled

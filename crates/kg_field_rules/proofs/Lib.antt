pub mod PatternLemmas
pub mod RuleLemmas
pub mod TextLemmas

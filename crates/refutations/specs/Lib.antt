-- What the promises rule out: the programs that document 01 lists, wrong verdicts, numbers of parameters gone wrong, wrong multipliers, wrong reasons, wrong claims, wrong blocks, wrong degrees, edits gone wrong, lent elements that change; what the theorems on determinants rule out;
-- and how little the promises leave open.
pub mod Computing
pub mod Accepted
pub mod Listed
pub mod Shortcuts
pub mod Verdicts
pub mod Numbered
pub mod Dependent
pub mod Blocked
pub mod Claimed
pub mod Ordered
pub mod Dynamic
pub mod Edited
pub mod Determinants
pub mod Areas
pub mod Open

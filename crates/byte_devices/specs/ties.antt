-- What only joins code to the definitions: no clause that a caller sees reaches it. Within the crate the clauses on
-- what `Counted` makes of an answer do.
pub mod Counting

-- For crates that look into tags: how a tag begins, its string, its parts, and the last tag of a name; first, of a gap,
-- that skipped byte by byte it leaves what the definition leaves, which goes line by line (gap_same).
pub use Rattle.pgn_tokens.proofs.Gaps.{gap_same}
-- the tokens after the tags: a token in front that may come among tags changes nothing; any other is the first of them
pub use Rattle.pgn_tokens.proofs.PassedTags.{tags_end, tags_on}
-- a string by its first byte: a quote ends it, and any other byte but `\n` comes before the string of the rest
pub use Rattle.pgn_tokens.proofs.Strings.{string_other, string_quote}
-- how a tag begins: the reader finds the name and the quote exactly where the relation `OpensTag` has them
-- (opening_read, opening_is); a name that is read is of letters, digits and `_` (name_is), and comes after a gap
-- (name_after_gap); where a byte of names comes after a gap, a name is read (name_comes)
pub use Rattle.pgn_tokens.proofs.TagFronts.{NameIs, OpeningRead, name_after_gap, name_comes, name_is, opening_is, opening_read}
-- the definition of a tag reads the same as the one by its parts
pub use Rattle.pgn_tokens.proofs.TagParts.{parts_are}
-- the last tag of a name, or else one found before, token by token
pub use Rattle.pgn_tokens.proofs.TagScans.{last_from, last_step}
-- a string by the relation is read as that string, and what is read is one by the relation
pub use Rattle.pgn_tokens.proofs.TagSplits.{StringLeaves, string_leaves, string_read}

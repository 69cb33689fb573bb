-- The tags of a game (PGN standard of 1994, section 8.1.1).
use Rattle.std.specs.Prelude.{codes}
use Rattle.chess_game.specs.declared.tags.HowEnded.TheVariants.{Normal}
use Rattle.pgn_writer.specs.declared.tags.Tags.{Tags}

-- the tags, all but Result, of a game of which nothing is known, with a normal end
abbrev pub default_tags : Tags
default_tags = record {
  event = codes "?";
  site = codes "?";
  date = codes "????.??.??";
  round = codes "?";
  white = codes "?";
  black = codes "?";
  ended = Normal;
}

-- A game that is counted is that of its tokens, and its moves are legal (the laws that are called); it begins from a
-- sound position, as the initial ones of both variants are sound. Each clause, for a text and for a piece, is one lemma
-- of CountedGames.
use Rattle.std.proofs.Common.{◌∙◌, subst}
use Rattle.chess_base.specs.{Initial.initial_setup_of, Sound.IsSound, declared.man.Variant.Variant, declared.man.Variant.TheVariants.Normal, declared.man.Variant.TheVariants.Fischerandom}
use Rattle.pgn_verifier_laws.proofs.CountedGames.{counted_games, counted_games_of_pieces}
use Rattle.pgn_verifier_laws.proofs.laws.counted_games_are_games.Goals as goal

either : IsSound (initial_setup_of Normal) → IsSound (initial_setup_of Fischerandom) → (v : Variant)
    → IsSound (initial_setup_of v)
either normal other Normal = normal
either normal other Fischerandom = other

pub returns-clause-text : goal.returns-clause-text
returns-clause-text c =
    counted_games c.read_moves_are_legal.ensures c.games_are_of_tokens.ensures
    (either
    (subst IsSound (c.setup-normal_sound.ensures.value ∙ c.initial_of-normal.ensures) c.setup-normal_sound.ensures.sound)
    (subst IsSound (c.setup-fischerandom_sound.ensures.value ∙ c.initial_of-fischerandom.ensures)
    c.setup-fischerandom_sound.ensures.sound))

pub returns-clause-piece : goal.returns-clause-piece
returns-clause-piece c =
    counted_games_of_pieces c.read_moves_are_legal.ensures c.games_are_of_tokens.ensures
    (either
    (subst IsSound (c.setup-normal_sound.ensures.value ∙ c.initial_of-normal.ensures) c.setup-normal_sound.ensures.sound)
    (subst IsSound (c.setup-fischerandom_sound.ensures.value ∙ c.initial_of-fischerandom.ensures)
    c.setup-fischerandom_sound.ensures.sound))

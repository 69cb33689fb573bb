-- Skipped tokens, such as white space and dots, change nothing: the same game is read from before them as from after
-- them (skips_alike), and the same variant is named (skips_say). By induction on the skipped tokens.
use Rattle.std.proofs.Common.{◌≡◌, ℕ, ◌+◌, true, List, [], ◌∷◌, ◌++◌, map, length, refl, ap, ◌∙◌}
use Rattle.chess_base.specs.declared.man.Variant.{Variant}
use Rattle.chess_pgn.specs.{laws.TokenByToken.SoFar, laws.TokenByToken.game_of, ties.GameSteps.ReadsAlike}
use Rattle.pgn_tokens.specs.Seen.{SkipsTo}
use Rattle.pgn_tokens.specs.Tokens.{Token, Skip, tokens_from}
use Rattle.pgn_tokens.proofs.shared.Tokens.{skipped}
use Rattle.chess_pgn.proofs.TagScans.{variant_from}

game_on : (limit total : ℕ) (g : SoFar) (lefts : List ℕ) (ts : List (ℕ × Token))
    → game_of true limit total g (skipped lefts ++ ts) ≡ game_of true limit total g ts
game_on limit total g [] ts = refl
game_on limit total g (left ∷ lefts) ts = game_on limit total g lefts ts

pub skips_alike : (text : List ℕ) (a b : ℕ) → SkipsTo text a b → ReadsAlike text a b
skips_alike text a b so = λ limit g.
    ap (game_of true limit (length text) g) so.1 ∙ game_on limit (length text) g so.0 (tokens_from text b)

variant_on : (v : Variant) (lefts : List ℕ) (ts : List (ℕ × Token))
    → variant_from v (skipped lefts ++ ts) ≡ variant_from v ts
variant_on v [] ts = refl
variant_on v (left ∷ lefts) ts = variant_on v lefts ts

pub skips_say : (text : List ℕ) (a b : ℕ) → SkipsTo text a b → (v : Variant)
    → variant_from v (tokens_from text a) ≡ variant_from v (tokens_from text b)
skips_say text a b so v = ap (variant_from v) so.1 ∙ variant_on v so.0 (tokens_from text b)

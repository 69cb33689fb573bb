-- In a game that starts in normal chess every later position is of normal chess too, since a move keeps the variant. So
-- each definition about the game (its positions, repetitions, verdict and PGN) equals the one for normal chess only,
-- whose name begins with `normal_`. Lemmas named .._kept say this equation, for one definition each.
use Rattle.std.proofs.Common.{◌≡◌, ℕ, cond, Bool, ◌||◌, List, [], ◌∷◌, ◌++◌, codes, None, refl, ap, ◌∙◌, if◌then◌else◌, count_by, not}
use Rattle.std.specs.List.{list_any}
use Rattle.std.proofs.lemmas.List.Sums.{sum_by-cons}
use Rattle.chess_base.specs.{declared.man.Move.Move, declared.man.Variant.Variant, declared.man.Variant.TheVariants.Normal, declared.setup.Setup.Setup, Initial.initial_setup, Initial.initial_setup_of, Moves.after, Moves.is_en_passant, Options.list_if}
use Rattle.chess_base.proofs.shared.After.{variant-after}
use Rattle.chess_base_laws.specs.Normal.{normal_after}
use Rattle.chess_base_laws.proofs.shared.Normal.{normal_kept as rules_kept}
use Rattle.chess_fen.specs.Writing.{fen, is_initial}
use Rattle.chess_fen_laws.proofs.shared.Normal.{fen_kept}
use Rattle.chess_text.specs.San.{is_fischerandom}
use Rattle.chess_text_laws.proofs.shared.Normal.{normal_kept as texts_kept}
use Rattle.chess_game.specs.{declared.results.Outcome.Outcome, Ends.verdict, Game.State, Game.outcome_now, Line.positions_of, Line.position_after, Results.outcome_text, Same.legal_en_passant_square, Same.is_same_position, Same.repetition_count}
use Rattle.chess_game.proofs.shared.Lines.{variant-position_after}
use Rattle.pgn_writer.specs.{declared.tags.Tags.Tags, Terminations.termination_text, Terminations.termination_of, Written.tag_line, Written.ended, Written.lines_of}
use Rattle.pgn_writer.specs.GameText.{tag_lines, move_tokens, game_tokens, pgn}
use Rattle.chess_cecp_laws.specs.NormalGame.{normal_initial, normal_line, normal_last, normal_legal_en_passant_square, normal_same, normal_rep, normal_verdict, normal_outcome_now}
use Rattle.chess_cecp_laws.specs.NormalPgn.{normal_is_initial, normal_tag_lines, normal_move_tokens, normal_game_tokens, normal_pgn}

pub initial_kept : initial_setup ≡ normal_initial
unfolding initial_setup initial_setup_of normal_initial
initial_kept = refl

-- ---- the line

pub last_kept : (p : Setup) → p.variant ≡ Normal → (ms : List Move) → position_after p ms ≡ normal_last p ms
last_kept p e [] = refl
last_kept p e (m ∷ ms) = last_kept (after p m) (variant-after p m ∙ e) ms
    ∙ ap (λ q. normal_last q ms) ((rules_kept p e).after m)

-- ---- repetition

target_kept : (p : Setup) → p.variant ≡ Normal → legal_en_passant_square p ≡ normal_legal_en_passant_square p
unfolding legal_en_passant_square normal_legal_en_passant_square
target_kept p e = ap (λ ms. if list_any (λ m. is_en_passant p m) ms then p.target else None) (texts_kept p e).moves

same_kept : (p q : Setup) → p.variant ≡ Normal → q.variant ≡ Normal → is_same_position p q ≡ normal_same p q
unfolding is_same_position normal_same
same_kept p q e h = rw (target_kept p e, target_kept q h)

-- counts of two lists by two tests are still equal with one element more, on which the tests agree
counted_one : (f g : Setup → Bool) (p : Setup) (ps qs : List Setup) → f p ≡ g p → count_by f ps ≡ count_by g qs
    → count_by f (p ∷ ps) ≡ count_by g (p ∷ qs)
counted_one f g p ps qs e h =
    rw (sum_by-cons (λ x. cond (f x) 1 0) p ps, sum_by-cons (λ x. cond (g x) 1 0) p qs, e, h)

-- the count of positions that are the same as `q`, among those of the game from `p` on; by induction on the moves
counted : (q : Setup) → q.variant ≡ Normal → (p : Setup) → p.variant ≡ Normal → (ms : List Move)
    → count_by (λ x. is_same_position x q) (positions_of p ms) ≡ count_by (λ x. normal_same x q) (normal_line p ms)
counted q h p e [] =
    counted_one (λ x. is_same_position x q) (λ x. normal_same x q) p [] [] (same_kept p q e h) refl
counted q h p e (m ∷ ms) =
    counted_one (λ x. is_same_position x q) (λ x. normal_same x q) p (positions_of (after p m) ms)
    (normal_line (normal_after p m) ms)
    (same_kept p q e h)
    (counted q h (after p m) (variant-after p m ∙ e) ms
    ∙ ap (λ r. count_by (λ x. normal_same x q) (normal_line r ms)) ((rules_kept p e).after m))

pub rep_kept : (p : Setup) → p.variant ≡ Normal → (ms : List Move) → repetition_count p ms ≡ normal_rep p ms
unfolding repetition_count normal_rep
rep_kept p e ms =
    rw (counted (position_after p ms) (variant-position_after p ms ∙ e) p e ms, last_kept p e ms)

-- ---- ends

pub verdict_kept : (p : Setup) → p.variant ≡ Normal → (ms : List Move) → verdict p ms ≡ normal_verdict p ms
unfolding verdict normal_verdict
verdict_kept p e ms =
    rw ((texts_kept (position_after p ms) (variant-position_after p ms ∙ e)).moves, last_kept p e ms, rep_kept p e ms)

outcome_kept : (s : State) → s.start.variant ≡ Normal → outcome_now s ≡ normal_outcome_now s
outcome_kept s e = rw (verdict_kept s.start e s.moves)

-- ---- the text

-- the initial position is one of normal chess
initial_is_normal : initial_setup.variant ≡ Normal
unfolding initial_setup initial_setup_of
initial_is_normal = refl

is_initial_kept : (p : Setup) → p.variant ≡ Normal → is_initial p ≡ normal_is_initial p
is_initial_kept p e = rw (fen_kept p e, fen_kept initial_setup initial_is_normal, initial_kept)

-- the lines of a game's tags by what they depend on: its outcome, its start's variant, whether the start is the
-- initial position, and the start's FEN
abbrev tag_lines_by : Tags → Outcome → Variant → Bool → List ℕ → List (List ℕ)
tag_lines_by t o v starts_initial start =
    tag_line (codes "Event") t.event ∷ tag_line (codes "Site") t.site ∷ tag_line (codes "Date") t.date
    ∷ tag_line (codes "Round") t.round ∷ tag_line (codes "White") t.white ∷ tag_line (codes "Black") t.black
    ∷ tag_line (codes "Result") (outcome_text o)
    ∷ list_if (is_fischerandom v || not starts_initial)
    (tag_line (codes "FEN") start ∷ tag_line (codes "SetUp") (codes "1") ∷ [])
    ++ tag_line (codes "Termination") (termination_text (termination_of t.ended o))
    ∷ list_if (is_fischerandom v) (tag_line (codes "Variant") (codes "fischerandom") ∷ [])

tags_kept : (t : Tags) (s : State) → s.start.variant ≡ Normal → tag_lines t s ≡ normal_tag_lines t s
tags_kept t s e =
    ap (λ o. tag_lines_by t o s.start.variant (is_initial s.start) (fen s.start)) (outcome_kept s e)
    ∙ ap (λ v. tag_lines_by t (normal_outcome_now s) v (is_initial s.start) (fen s.start)) e
    ∙ ap (λ b. tag_lines_by t (normal_outcome_now s) Normal b (fen s.start)) (is_initial_kept s.start e)
    ∙ ap (tag_lines_by t (normal_outcome_now s) Normal (normal_is_initial s.start)) (fen_kept s.start e)

moves_kept : (p : Setup) → p.variant ≡ Normal → (ms : List Move) → move_tokens p ms ≡ normal_move_tokens p ms
moves_kept p e [] = refl
moves_kept p e (m ∷ ms) =
    rw ((texts_kept p e).san m, moves_kept (after p m) (variant-after p m ∙ e) ms, (rules_kept p e).after m)

tokens_kept : (s : State) → s.start.variant ≡ Normal → game_tokens s ≡ normal_game_tokens s
tokens_kept s e = rw (moves_kept s.start e s.moves, verdict_kept s.start e s.moves)

pub pgn_kept : (prefix : List ℕ) (t : Tags) (s : State) → s.start.variant ≡ Normal
    → pgn prefix t s ≡ normal_pgn prefix t s
unfolding pgn normal_pgn
pgn_kept prefix t s e =
    ap (λ tags. ended prefix (tags ++ [] ∷ lines_of (game_tokens s) ++ [] ∷ [])) (tags_kept t s e)
    ∙ ap (λ tokens. ended prefix (normal_tag_lines t s ++ [] ∷ lines_of tokens ++ [] ∷ [])) (tokens_kept s e)

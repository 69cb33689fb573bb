-- Where faults and ends are: a fault's offset is in the text and not before the offset where reading began
-- (fault_in_place, a law); a game has at most as many half-moves as bytes from there to its end (half_moves_have_bytes,
-- a law), which is in the text and after that offset (ends_in_text). By induction on the tokens: each has a byte and
-- plays at most one half-move.
use Rattle.std.proofs.Common.{ℕ, zero, suc, ◌+◌, ◌-◌, ◌≤◌, ◌<◌, Bool, eqb, List, [], ◌∷◌, length, drop, Option, Some, None, IfSome, Result, Ok, Err, IfOk, IfErr, sym, subst, arith, length-append, length-drop}
use Rattle.chess_pgn.specs.{declared.read.PgnEnd.PgnEnd, declared.read.PgnFault.PgnFault, GameRead.GameRead, GameRead.tagged_variant, GameRead.pgn_read, laws.Offsets.FaultsHaveOffsets, laws.Offsets.HalfMovesHaveBytes}
use Rattle.pgn_tokens.specs.LastTags.{tag_section}
use Rattle.chess_pgn.specs.laws.TokenByToken.{SoFar, Step, On, Stop, step, read_rest_with, game_of, at_text_end, nothing_read, tokens_read}
use Rattle.pgn_tokens.specs.Tokens.{Token, token_at, tokens_of, begins_line, tokens_from}
use Rattle.byte_devices.specs.Bytes.{after_byte_order_mark}
use Rattle.chess_pgn.proofs.GamesByTags.{reads_alike}
use Rattle.pgn_tokens.proofs.{shared.Bytes.pick, shared.Tokens.not_before, shared.Tokens.within, shared.Tokens.shorter}
use Rattle.chess_pgn.proofs.StepKinds.{StepIs, passes, stays, plays, starts, stops, finishes, step_is}

-- what was read from the offset `first` on, by a game that had `done` half-moves there and has `moves` in the end. A
-- fault is from there to the offset `last`; an end is at most at `last`, and after `first` there are more bytes up to
-- it than half-moves
abbrev InPlace : ℕ → ℕ → ℕ → ℕ → Result (Option PgnEnd) PgnFault → Type 0
InPlace first last done moves (Ok None) = Unit {0}
InPlace first last done moves (Ok (Some e)) = (moves + first < done + e.offset) × (e.offset ≤ last)
InPlace first last done moves (Err f) = (first ≤ f.offset) × (f.offset ≤ last)

-- a step plays at most one half-move, or stops with an end or a fault that is in its place
abbrev StepInPlace : ℕ → ℕ → ℕ → Step → Type 0
StepInPlace first last done (On h) = length h.state.moves ≤ done + 1
StepInPlace first last done (Stop r) = InPlace first last done (length r.state.moves) r.answer

-- any step of reading does so (StepIs of StepKinds)
step_in_place : (left last : ℕ) (g : SoFar) {s : Step} → left ≤ last → StepIs g left last s
    → StepInPlace (last - left) last (length g.state.moves) s
step_in_place left last g few passes = omega arith
step_in_place left last g few (stays m b t) = omega arith
step_in_place left last g few (plays m) = let sum = length-append g.state.moves (m ∷ []) in omega (arith, sum)
step_in_place left last g few (starts p) = omega arith
step_in_place left last g few (stops kind offset low high) = (low, high)
step_in_place left last g few (finishes o len some high) = (omega (arith, some), omega (arith, few, high))

-- what is in place from a later offset on, `from`, is so from `first` on, if at least as many bytes as half-moves are
-- between
further : (first from last done most moves more : ℕ) (r : Result (Option PgnEnd) PgnFault) → first + more ≤ from
    → most ≤ done + more → InPlace from last most moves r → InPlace first last done moves r
further first from last done most moves more (Ok None) h k f = tt
further first from last done most moves more (Ok (Some e)) h k f = let low = f.0 in (omega (arith, h, k, low), f.1)
further first from last done most moves more (Err x) h k f = let low = f.0 in (omega (arith, h, low), f.1)

-- the step of a token, and then what is read from the next one on
gone_on : (first from last done : ℕ) (s : Step) (later : SoFar → GameRead) → first + 1 ≤ from
    → StepInPlace first last done s
    → ((h : SoFar) → InPlace from last (length h.state.moves) (length (later h).state.moves) (later h).answer)
    → InPlace first last done (length (read_rest_with s later).state.moves) (read_rest_with s later).answer
gone_on first from last done (On g) later h k f = further first from last done (length g.state.moves)
    (length (later g).state.moves) 1 (later g).answer h k (f g)
gone_on first from last done (Stop r) later h k f = k

-- at the text's end
ended_in_place : (total first done : ℕ) (g : SoFar) → first ≤ total
    → InPlace first total done (length g.state.moves) (at_text_end total g).answer
ended_in_place total first done g h =
    pick (InPlace first total done (length g.state.moves)) g.is_met _ _ (λ _. (h, omega arith)) (λ _. tt)

-- a game read from any token on; by induction on the tokens
game_in_place : (draws : Bool) (limit total n : ℕ) (begins : Bool) (g : SoFar) (xs : List ℕ) → length xs ≤ total
    → InPlace (total - length xs) total (length g.state.moves)
    (length (game_of draws limit total g (tokens_of n begins xs)).state.moves)
    (game_of draws limit total g (tokens_of n begins xs)).answer
unfolding tokens_of
game_in_place draws limit total zero begins g xs h =
    ended_in_place total (total - length xs) (length g.state.moves) g (omega arith)
game_in_place draws limit total (suc n) begins g [] h =
    ended_in_place total (total - 0) (length g.state.moves) g (omega arith)
game_in_place draws limit total (suc n) begins g (c ∷ rest) h =
    let t : Token × List ℕ = token_at begins c rest in
    let fewer = shorter begins c rest in
    let nearer : total - suc (length rest) + 1 ≤ total - length t.1 = omega (arith, fewer, h) in
    let few : length t.1 ≤ total = omega (arith, fewer, h) in
    gone_on (total - suc (length rest)) (total - length t.1) total (length g.state.moves)
    (step draws limit total g (suc (length rest)) t.0)
    (λ u. game_of draws limit total u (tokens_of n (eqb c 10) t.1)) nearer
    (step_in_place (suc (length rest)) total g h
    (step_is draws limit total g (suc (length rest)) t.0 (within begins c rest)))
    (λ u. game_in_place draws limit total n (eqb c 10) u t.1 few)

-- a game read from the offset `at` on
in_place : (draws : Bool) (limit : ℕ) (text : List ℕ) (at : ℕ) → at ≤ length text
    → let r = tokens_read draws limit (length text) (tokens_from text (after_byte_order_mark text at)) in
    InPlace at (length text) 0 (length r.state.moves) r.answer
unfolding tokens_from
in_place draws limit text at h =
    let offset : ℕ = after_byte_order_mark text at in
    let g : SoFar = nothing_read (tagged_variant (tag_section (tokens_from text offset))) in
    let later = not_before text at h in
    let low = later.0 in
    let high = later.1 in
    let left = length-drop offset text in
    let few : length (drop offset text) ≤ length text = omega (arith, left) in
    let near : at + 0 ≤ length text - length (drop offset text) = omega (arith, low, high, left) in
    further at (length text - length (drop offset text)) (length text) 0 0 _ 0 _ near (omega arith)
    (game_in_place draws limit (length text) (length text) (begins_line text offset) g (drop offset text) few)

-- ---- the laws

pub fault_in_place : FaultsHaveOffsets
fault_in_place draws limit text at h =
    subst (λ (r : GameRead). IfErr r.answer (λ f. (at ≤ f.offset) × (f.offset ≤ length text)))
    (sym (reads_alike draws limit text at)) (by_answer _ _ (in_place draws limit text at h))
  where
    by_answer : (moves : ℕ) (r : Result (Option PgnEnd) PgnFault) → InPlace at (length text) 0 moves r
        → IfErr r (λ f. (at ≤ f.offset) × (f.offset ≤ length text))
    by_answer moves (Ok o) k = tt
    by_answer moves (Err f) k = k

pub half_moves_have_bytes : HalfMovesHaveBytes
half_moves_have_bytes draws limit text at h =
    subst (λ (r : GameRead). IfOk r.answer (λ o. IfSome o (λ e. length r.state.moves + at ≤ e.offset)))
    (sym (reads_alike draws limit text at)) (by_answer _ _ (in_place draws limit text at h))
  where
    by_answer : (moves : ℕ) (r : Result (Option PgnEnd) PgnFault) → InPlace at (length text) 0 moves r
        → IfOk r (λ o. IfSome o (λ e. moves + at ≤ e.offset))
    by_answer moves (Ok None) k = tt
    by_answer moves (Ok (Some e)) k = let low = k.0 in omega (arith, low)
    by_answer moves (Err f) k = tt

-- a game ends in the text, after the offset where reading began
pub ends_in_text : (draws : Bool) (limit : ℕ) (text : List ℕ) (at : ℕ) → at ≤ length text
    → IfOk (pgn_read draws limit text at).answer (λ o. IfSome o (λ e. (at < e.offset) × (e.offset ≤ length text)))
ends_in_text draws limit text at h =
    subst (λ (r : GameRead). IfOk r.answer (λ o. IfSome o (λ e. (at < e.offset) × (e.offset ≤ length text))))
    (sym (reads_alike draws limit text at)) (by_answer _ _ (in_place draws limit text at h))
  where
    by_answer : (moves : ℕ) (r : Result (Option PgnEnd) PgnFault) → InPlace at (length text) 0 moves r
        → IfOk r (λ o. IfSome o (λ e. (at < e.offset) × (e.offset ≤ length text)))
    by_answer moves (Ok None) k = tt
    by_answer moves (Ok (Some e)) k = let low = k.0 in (omega (arith, low), k.1)
    by_answer moves (Err f) k = tt

-- For the loop of `verify_pieces`, which verifies a collection piece by piece (a piece is a part of the input that is
-- read as a text of its own). By its invariant (SoFar) the reports on the pieces so far were written and counted. One
-- more piece keeps this (written_on); a failed write (write_failed), the last piece (all_written) and a failed read
-- (stopped) end it.
use Rattle.std.proofs.Common.{◌≡◌, ℕ, ◌+◌, ◌*◌, ◌≤◌, ◌<◌, ◌^◌, Bool, true, false, not, List, [], ◌∷◌, ◌++◌, length, map, take, Some, None, Ok, Err, refl, sym, ap, subst, ◌∙◌, append_assoc, append-nil, arith, ap₂, take-take, if◌then◌else◌, nat_le, sum_by, flat_map, take_while}
use Rattle.std.specs.Option.{option_map_or}
use Rattle.pgn_tokens.specs.Tokens.{is_white_space}
use Rattle.chess_pgn.specs.declared.read.PgnFaultKind.TheVariants.{TooLong}
use Rattle.pgn_pieces.specs.{declared.pieces.TheConstants.PIECE_LEN, declared.pieces.PieceFault.PieceFault, laws.HandedOut.PiecesAreCut, laws.Places.PiecesAreInPlace}
use Rattle.verify_options.specs.declared.options.Strictness.{Strictness}
use Rattle.verify_options.specs.declared.options.VerifyOptions.{VerifyOptions}
use Rattle.pgn_verifier.specs.{Explanations.shown, Explanations.shown_word, declared.game_fault.FaultKind.TheVariants.Pgn, declared.tally.Tally.Tally, declared.fault.VerifyFault.TheVariants.WriteFailed, Collection.VerifiesCollection, Faults.of_piece}
use Rattle.std.proofs.{lemmas.List.Concat.flat_map-append, lemmas.List.Sums.sum_by_push}
use Rattle.byte_devices.specs.{declared.traits.WriteFault.WriteFault, Transfers.Ran}
use Rattle.byte_devices.specs.Devices.{InputState, OutputState, Took, CutShort}
use Rattle.byte_devices.proofs.shared.Devices.{breaks_longer}
use Rattle.pgn_pieces.specs.Stream.{Piece, pieces, State, IsStateOf, Next, MayFollow, PieceSeen, piece_at, pieces_seen, past_piece, current, unread, pieces_after_part, pieces_held}
use Rattle.pgn_pieces.proofs.shared.Inputs.{nothing_read}
use Rattle.pgn_verifier.specs.Reports.{Faulty, Placed, report_lines, counts_line, counts_of}
use Rattle.pgn_verifier.specs.laws.Reported.{placed_of, placed_in, collection_placed, too_long_placed}
use Rattle.pgn_verifier.specs.ties.OnTheWay.{WritesCollection, Writes, PieceStandsIf, GrowsBy, reports_seen, reports_of, counted, collection_lines}
use Rattle.pgn_verifier.proofs.{Placed.piece_there, Verifying.collection_broke_off, Verifying.reading_stopped}
use Rattle.pgn_verifier.proofs.LinesWritten.{took_after, broke_after, lines_after, wrote_none, counted_after, all_counted}

-- the counts before the first report
abbrev pub none : Tally
none = record { games = 0; half_moves = 0; faults = 0 }

-- ---- what is seen of pieces is enough

-- of a word only 40 bytes are shown, so it is shown the same if only the text's first 40 bytes are kept
shown_beginning : (bytes : List ℕ) → shown (take 40 bytes) ≡ shown bytes
shown_beginning bytes = ap (λ xs. shown_word (take_while (λ c. not (is_white_space c)) xs)) (take-take 40 40 bytes (omega arith))

-- so the report on a piece is the same if of a piece that is too long only its beginning is kept; and so for several
-- pieces, and for a collection
seen_alike : (strict : Strictness) (piece : Piece)
    → placed_in strict piece ≡ reports_seen strict (piece_at piece.offset piece.bytes)
seen_alike strict piece = by_test (nat_le (length piece.bytes) PIECE_LEN)
  where
    too_long_with : List ℕ → Placed
    too_long_with text = record {
      begin = piece.offset;
      end = piece.offset + length piece.bytes;
      report = Faulty (record { kind = Pgn TooLong; offset = piece.offset }) [] piece.offset text [] true;
    }

    by_test : (b : Bool) → (if b then placed_of true strict piece.offset piece.bytes else too_long_placed piece ∷ [])
        ≡ option_map_or (placed_of true strict piece.offset) (if b then Some piece.bytes else None)
        (too_long_with (shown (take 40 piece.bytes)) ∷ [])
    by_test true = refl
    by_test false = ap (λ t. too_long_with t ∷ []) (sym (shown_beginning piece.bytes))

all_seen_alike : (strict : Strictness) (all : List Piece)
    → flat_map (placed_in strict) all
    ≡ reports_of strict (map (λ (piece : Piece). piece_at piece.offset piece.bytes) all)
all_seen_alike strict [] = refl
all_seen_alike strict (piece ∷ more) =
    ap₂ (λ xs ys. xs ++ ys) (seen_alike strict piece) (all_seen_alike strict more)

as_seen : (strict : Strictness) (ended : Bool) (text : List ℕ)
    → collection_placed strict ended text ≡ reports_of strict (pieces_seen ended 0 text)
as_seen strict ended text = all_seen_alike strict (pieces ended 0 text)

-- ---- the pieces up to here were reported

-- the number of the line after these pieces
abbrev line_after : List PieceSeen → ℕ
line_after done = sum_by (λ (p : PieceSeen). p.line_ends) done + 1

-- the loop after some pieces (`done`): `text` was read, the input went from `r` to `r'` and the output from `w` to
-- `w'`. The pieces of all that may come are these and those still held (`due`); their reports were written (`took`) and
-- counted (`is`). The others bound the counts, so that they don't overflow
pub record SoFar (options : VerifyOptions) (r r' : InputState) (w w' : OutputState) (s : State)
    (tally : Tally) (line : ℕ)
    : Type 0 where
  pub text : List ℕ
  pub done : List PieceSeen
  pub stands : IsStateOf s r r' text
  pub due : (ended : Bool) (rest : List ℕ) → MayFollow s.ended ended rest
      → pieces_after_part ended 0 [] (text ++ rest) ≡ done ++ pieces_held ended (past_piece s) rest
  pub took : (more : List ℕ) → Took w w' (report_lines options (text ++ more) 1 (reports_of options.strict done))
  pub is : tally ≡ counted none (reports_of options.strict done)
  pub few : tally.games + tally.faults ≤ 2 * (s.offset + length s.part)
  pub few_moves : tally.half_moves ≤ s.offset + length s.part
  pub small : s.offset + length s.part ≤ 2 ^ 63
  pub lines : options.explain ≡ true → line ≡ line_after done
  pub few_lines : line ≤ s.offset + length s.part + 1

-- this holds before the first piece
pub begun : (options : VerifyOptions) (r : InputState) (w : OutputState) → SoFar options r r w w unread none 1
begun options r w = record {
  text = [];
  done = [];
  stands = record { read = nothing_read r; all = refl };
  due = λ ended rest follows. refl;
  took = λ more. wrote_none options ([] ++ more) none w;
  lines = λ h. refl;
  few_lines = omega arith;
  is = refl;
  few = omega arith;
  few_moves = omega arith;
  small = omega arith;
}

-- what may follow once `more` was read: put after `more`, it may follow what was read before. `b` and `b'` say whether
-- the collection's end was read before and after
follows_on : (b b' ended : Bool) (more rest : List ℕ) → (b ≡ true → (b' ≡ true) × (more ≡ []))
    → MayFollow b' ended rest → MayFollow b ended (more ++ rest)
follows_on false b' ended more rest h f = tt
follows_on true b' ended more rest h f =
    let k = h refl in
    let t = subst (λ c. MayFollow c ended rest) k.0 f in
    (t.0, ap (λ xs. xs ++ rest) k.1 ∙ t.1)

-- a round of the loop: the next piece, `current s'`, has come
module _ (options : VerifyOptions) (r r' r'' : InputState) (w w' : OutputState) (s s' : State)
    (tally : Tally) (line : ℕ)
    (so : SoFar options r r' w w' s tally line) where
  -- the pieces that are known when the next has come
  come : (next : Next s s' r r'' so.text (Ok true)) → (ended : Bool) (rest : List ℕ) → MayFollow s'.ended ended rest
      → pieces_after_part ended 0 [] ((so.text ++ next.0) ++ rest)
      ≡ (so.done ++ current s' ∷ []) ++ pieces_held ended (past_piece s') rest
  come next ended rest follows =
      ap (pieces_after_part ended 0 []) (append_assoc so.text next.0 rest)
      ∙ so.due ended (next.0 ++ rest) (follows_on s.ended s'.ended ended next.0 rest next.2 follows)
      ∙ ap (λ ps. so.done ++ ps) (next.3 ended rest follows)
      ∙ sym (append_assoc so.done (current s' ∷ []) (pieces_held ended (past_piece s') rest))

  -- of a collection that has ended no more may follow
  known : (b : Bool) → MayFollow b b []
  known true = (refl, refl)
  known false = tt

  all_known : (law : PiecesAreCut) (next : Next s s' r r'' so.text (Ok true))
      → pieces_seen s'.ended 0 (so.text ++ next.0) ≡ (so.done ++ current s' ∷ []) ++ pieces_held s'.ended (past_piece s') []
  all_known law next =
      law s'.ended (so.text ++ next.0)
      ∙ ap (pieces_after_part s'.ended 0 []) (sym (append-nil (so.text ++ next.0)))
      ∙ come next s'.ended [] (known s'.ended)

  reports_more : reports_of options.strict (so.done ++ current s' ∷ [])
      ≡ reports_of options.strict so.done ++ reports_seen options.strict (current s')
  reports_more = flat_map-append (λ p. reports_seen options.strict p) so.done (current s' ∷ [])
      ∙ ap (λ xs. reports_of options.strict so.done ++ xs) (append-nil (reports_seen options.strict (current s')))

  -- the current piece is in its place, whatever follows what was read
  stands_there : PiecesAreCut × PiecesAreInPlace → (next : Next s s' r r'' so.text (Ok true)) → (more : List ℕ)
      → PieceStandsIf options.explain line ((so.text ++ next.0) ++ more) (current s')
  stands_there law next more explain =
      let all = next.1.all in
      piece_there (so.text ++ next.0) more so.done (current s') line
      (law.1 s'.ended (so.text ++ next.0) so.done (current s') (pieces_held s'.ended (past_piece s') [])
      (all_known law.0 next ∙ append_assoc so.done (current s' ∷ []) (pieces_held s'.ended (past_piece s') [])))
      (omega (arith, all)) (so.lines explain)

  pub written_on : PiecesAreCut × PiecesAreInPlace → (w'' : OutputState) (after : Tally) (line' : ℕ)
      → Next s s' r r'' so.text (Ok true)
      → s'.offset ≡ s.offset + length s.part → 0 < length s'.part → s'.offset + length s'.part ≤ 2 ^ 63
      → ((input : List ℕ) → PieceStandsIf options.explain line input (current s')
      → Writes {E = WriteFault} options input tally w' w'' (Ok after) (reports_seen options.strict (current s')))
      → GrowsBy (length s'.part) tally after → (options.explain ≡ true → line' ≡ line + (current s').line_ends)
      → line' ≤ line + length s'.part → SoFar options r r'' w w'' s' after line'
  written_on law w'' after line' next offset some small wrote grown counted_lines few_more =
      let few = so.few in
      let few_moves = so.few_moves in
      let few_lines = so.few_lines in
      let grown_reports = grown.reports in
      let grown_moves = grown.half_moves in
      let is = (wrote ((so.text ++ next.0) ++ []) (stands_there law next [])).1 in record {
        text = so.text ++ next.0;
        done = so.done ++ current s' ∷ [];
        stands = next.1;
        due = come next;
        took = λ more. subst (λ xs. Took w w'' (report_lines options ((so.text ++ next.0) ++ more) 1 xs))
            (sym reports_more)
            (took_after options ((so.text ++ next.0) ++ more) none tally w w' w'' (reports_of options.strict so.done)
            (subst (λ xs. Took w w' (report_lines options xs 1 (reports_of options.strict so.done)))
            (sym (append_assoc so.text next.0 more)) (so.took (next.0 ++ more))) so.is
            (reports_seen options.strict (current s'))
            (wrote ((so.text ++ next.0) ++ more) (stands_there law next more)).0);
        is = is ∙ ap (λ (t : Tally). counted t (reports_seen options.strict (current s'))) so.is
            ∙ counted_after none (reports_of options.strict so.done) (reports_seen options.strict (current s')) ∙ ap
            (counted none) (sym reports_more);
        few = omega (arith, few, grown_reports, offset, some);
        few_moves = omega (arith, few_moves, grown_moves, offset);
        small = small;
        lines = λ explain. (let n = sum_by_push (λ (p : PieceSeen). p.line_ends) so.done (current s') in
            let so_far = so.lines explain in
            let one_more = counted_lines explain in omega (arith, n, so_far, one_more));
        few_lines = omega (arith, few_lines, few_more, offset);
      }

  pub write_failed : PiecesAreCut × PiecesAreInPlace → (w'' : OutputState) (fault : WriteFault)
      → Next s s' r r'' so.text (Ok true)
      → ((input : List ℕ) → PieceStandsIf options.explain line input (current s')
      → Writes options input tally w' w'' (Err fault) (reports_seen options.strict (current s')))
      → Ran (VerifiesCollection options (Err WriteFailed)) (record { input = r; output = w })
      (record { input = r''; output = w'' })
  write_failed law w'' fault next wrote =
      let later = pieces_held s'.ended (past_piece s') [] in
      let text = so.text ++ next.0 in
      let all : collection_placed options.strict s'.ended text ≡
      (reports_of options.strict so.done ++ reports_seen options.strict (current s')) ++ reports_of options.strict
      later =
      as_seen options.strict s'.ended text ∙ ap (reports_of options.strict) (all_known law.0 next)
      ∙ flat_map-append (λ p. reports_seen options.strict p) (so.done ++ current s' ∷ []) later
      ∙ ap (λ xs. xs ++ reports_of options.strict later) reports_more in
      let stands = subst (λ xs. PieceStandsIf options.explain line xs (current s')) (append-nil text)
      (stands_there law next []) in
      let first = broke_after options text none tally w w' w'' (reports_of options.strict so.done)
      (so.took next.0) so.is
      (reports_seen options.strict (current s')) (wrote text stands) in
      let lines = breaks_longer w w'' (report_lines options text 1
      (reports_of options.strict so.done ++ reports_seen options.strict (current s')))
      (report_lines options text (1 + length
      (reports_of options.strict so.done ++ reports_seen options.strict (current s')))
      (reports_of options.strict later)) first in
      collection_broke_off options r r'' w w'' s'.ended text next.1.read
      (breaks_longer w w'' (collection_lines options s'.ended text)
      (if s'.ended then counts_line (counts_of (collection_placed options.strict s'.ended text)) else [])
      (subst (CutShort w w'') (sym (lines_after options text 1
      (reports_of options.strict so.done ++ reports_seen options.strict (current s')) (reports_of options.strict later))
      ∙ ap (report_lines options text 1) (sym all)) lines))

  pub all_written : (law : PiecesAreCut) → Next s s' r r'' so.text (Ok false)
      → WritesCollection options r r'' w w' (Ok tally)
  all_written law next =
      let more = next.0 in
      let text = so.text ++ more in
      let follows = subst (MayFollow s.ended true) (append-nil more)
      (follows_on s.ended true true more [] (λ h. (refl, next.2 h)) (refl, refl)) in
      let all : collection_placed options.strict true text ≡ reports_of options.strict so.done =
      as_seen options.strict true text ∙ ap (reports_of options.strict) (law true text ∙ so.due true more follows ∙ ap (λ ps. so.done ++ ps) next.3 ∙
      append-nil so.done) in (
        text,
        next.1,
        subst (λ xs. Took w w' (report_lines options text 1 xs)) (sym all) (so.took more),
        so.is ∙ ap (counted none) (sym all) ∙ all_counted (collection_placed options.strict true text),
      )

  pub stopped : (law : PiecesAreCut) (fault : PieceFault) → Next s s' r r'' so.text (Err fault)
      → Ran (VerifiesCollection options (Err (of_piece fault))) (record { input = r; output = w })
      (record { input = r''; output = w' })
  stopped law fault next =
      let more = next.0 in
      let text = so.text ++ more in
      let all : collection_placed options.strict false text ≡ reports_of options.strict so.done =
      as_seen options.strict false text ∙ ap (reports_of options.strict) (law false text ∙ so.due false more
      (subst (λ b. MayFollow b false more) (sym next.2) tt)
      ∙ ap (λ ps. so.done ++ ps) next.3 ∙ append-nil so.done) in
      let written = subst (λ xs. Took w w' (report_lines options text 1 xs)) (sym all) (so.took more) in
      reading_stopped options r r'' w w' text fault next.1 written

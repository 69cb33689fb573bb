-- `setboard` of the FEN that `showfen` wrote begins a game at the position shown. A FEN begins with no space or tab, so
-- it is the whole argument of `setboard`; and that it is read back as the same position is a law of chess_fen_laws.
use Rattle.std.proofs.Common.{◌≡◌, ◌∙◌, ◌≤◌, ℕ, Bool, true, false, eqb, List, [], ◌∷◌, ◌++◌, length, length-append, drop, take, Option, None, Some, Ok, refl, sym, ap, subst, arith, codes}
use Rattle.std.proofs.{Math.Seq.take-append_seam, lemmas.Bool.Decides.nat_tests}
use Rattle.chess_base.specs.{Letters.letter, Letters.letter_by, Sound.IsSound, declared.man.Colour.Colour, declared.man.Colour.TheVariants.White, declared.man.Colour.TheVariants.Black, declared.man.Kind.Kind, declared.man.Man.Man, declared.setup.Setup.Setup}
use Rattle.chess_base.specs.declared.man.Kind.TheVariants.{King, Queen, Rook, Bishop, Knight, Pawn}
use Rattle.chess_fen.specs.Reading.{fen_reading_as}
use Rattle.chess_fen.specs.Writing.{fen, fen_rank, placement_text, squares_text}
use Rattle.chess_fen_laws.specs.Laws.{WrittenIsReadBack}
use Rattle.chess_game.specs.Game.{current}
use Rattle.chess_game.proofs.shared.Lines.{IsSound-position_after, variant-position_after}
use Rattle.text_lines.specs.{Lines.LineSeen, Lines.without_front_blanks, Words.argument_of}
use Rattle.chess_cecp.specs.{Commands.command_of, Commands.is_ignored, Commands.named_command, Held.SessionSeen, Serving.Response, Session.row, Session.session_response, Session.setboard_row, declared.command.Command.Command, declared.command.Command.TheVariants.SetBoard, declared.command.Command.TheVariants.ShowFen}
use Rattle.chess_cecp_laws.specs.SetBoard.{SetboardTakesShownFens}

-- ---- a FEN begins with no space or tab

-- a text is empty, or its first byte is above 32, the code of the space; so it is no space and no tab
abbrev Begins : List ℕ → Type 0
Begins [] = Unit {0}
Begins (c ∷ cs) = 33 ≤ c

-- the letters of all pieces are above it
by_letter : (c : Colour) (k : Kind) → 33 ≤ letter_by c k
by_letter White King = omega arith
by_letter White Queen = omega arith
by_letter White Rook = omega arith
by_letter White Bishop = omega arith
by_letter White Knight = omega arith
by_letter White Pawn = omega arith
by_letter Black King = omega arith
by_letter Black Queen = omega arith
by_letter Black Rook = omega arith
by_letter Black Bishop = omega arith
by_letter Black Knight = omega arith
by_letter Black Pawn = omega arith

letter_high : (man : Man) → 33 ≤ letter man
letter_high man = by_letter man.colour man.kind

-- the squares of a rank as a FEN writes them; `in_run`: a run of empty squares is being counted, so its digit comes
-- later
squares_begin : (in_run : Bool) (row : List (Option Man)) → Begins (squares_text in_run row)
squares_begin true [] = tt
squares_begin false [] = tt
squares_begin true (Some man ∷ row) = letter_high man
squares_begin false (Some man ∷ row) = letter_high man
squares_begin true (None ∷ row) = squares_begin true row
squares_begin false (None ∷ row) = omega arith

rank_begins : (row : List (Option Man)) → Begins (fen_rank row)
rank_begins row = squares_begin false row

-- a text has a first byte, which is above 32
abbrev Starts : List ℕ → Type 0
Starts text = (c : ℕ) × (cs : List ℕ) × (text ≡ c ∷ cs) × (33 ≤ c)

-- a text that begins so, and then such a byte: `Starts` holds, even if the first text is empty
starts_by : (x rest : List ℕ) (c : ℕ) → Begins x → 33 ≤ c → Starts (x ++ c ∷ rest)
starts_by [] rest c h k = (c, rest, refl, k)
starts_by (b ∷ bs) rest c h k = (b, bs ++ c ∷ rest, refl, h)

starts_more : (x rest : List ℕ) → Starts x → Starts (x ++ rest)
starts_more x rest (c, cs, is, high) = (c, cs ++ rest, ap (λ t. t ++ rest) is, high)

-- a FEN begins with the eighth rank (squares 56 to 63) and a `/` (47)
placement_starts : (men : List (Option Man)) → Starts (placement_text men)
unfolding placement_text
placement_starts men =
    starts_by (fen_rank (take 8 (drop 56 men))) _ 47 (rank_begins (take 8 (drop 56 men))) (omega arith)

fen_starts : (p : Setup) → Starts (fen p)
fen_starts p = starts_more (placement_text p.men) _ (placement_starts p.men)

-- so nothing is trimmed at the FEN's front
kept : (text : List ℕ) → Starts text → without_front_blanks text ≡ text
kept text (c, cs, is, high) =
    let space : eqb c 32 ≡ false = grind (arith, nat_tests, high) in
    let tab : eqb c 9 ≡ false = grind (arith, nat_tests, high) in
    subst (λ t. without_front_blanks t ≡ t) (sym is) (rw (space, tab) refl)

-- ---- the two lines

asks : command_of (codes "showfen") ≡ ShowFen
unfolding command_of named_command is_ignored
asks = refl

sets : (text : List ℕ) → command_of (codes "setboard " ++ text) ≡ SetBoard
unfolding command_of named_command is_ignored
sets text = refl

takes : (text : List ℕ) → Starts text → argument_of (codes "setboard " ++ text) ≡ text
unfolding argument_of
takes text h = kept text h

-- how a session responds to a line that is not too long, by its text and its command
abbrev by_command : SessionSeen → List ℕ → Command → Response SessionSeen
by_command seen text command =
    let r = row seen.tags seen.limit seen.state text (argument_of text) command in
    record { text = r.text; state = record seen { state = r.state }; ends = r.ends }

-- the session's response to a line that is not too long and has this command is the one by the command's row
responds_by : (seen : SessionSeen) (line : LineSeen) (text : List ℕ) (command : Command) → line.too_long ≡ false
    → line.text ≡ text → command_of text ≡ command → session_response seen line ≡ by_command seen text command
unfolding session_response
responds_by seen line text command fits same is = rw (fits, same, is) refl

-- ---- the law

-- two texts are equal if they are with a line feed (10) after them
same_text : (a b : List ℕ) → a ++ 10 ∷ [] ≡ b ++ 10 ∷ [] → a ≡ b
same_text a b e =
    let m = length-append a (10 ∷ []) in
    let n = length-append b (10 ∷ []) in
    let long : length a ≡ length b = omega (arith, ap length e, m, n) in
    sym (take-append_seam a (10 ∷ [])) ∙ ap (take (length a)) e
    ∙ ap (λ k. take k (b ++ 10 ∷ [])) long ∙ take-append_seam b (10 ∷ [])

-- the answer to `showfen` is `# fen `, a text and a line feed: that text is the position's FEN
fen_shown : (p : Setup) (text : List ℕ) → codes "# fen " ++ (fen p ++ 10 ∷ []) ≡ codes "# fen " ++ text ++ 10 ∷ []
    → fen p ≡ text
fen_shown p text e = same_text (fen p) text (ap (drop 6) e)

pub shown_fens_are_set : WrittenIsReadBack → SetboardTakesShownFens
shown_fens_are_set law shown set asking setting text playable same asks_it wrote sets_it =
    let p : Setup = current shown.state in
    let first = responds_by shown asking (codes "showfen") ShowFen asks_it.fits asks_it.is asks in
    let is : fen p ≡ text = fen_shown p text (sym (ap (λ (r : Response SessionSeen). r.text) first) ∙ wrote) in
    let sound : IsSound p = IsSound-position_after shown.state.start shown.state.moves playable.start playable.line in
    let variant : p.variant ≡ set.state.start.variant =
    variant-position_after shown.state.start shown.state.moves ∙ sym same in
    let read : fen_reading_as set.state.start.variant text ≡ Ok p =
    sym (ap (λ v. fen_reading_as v text) variant) ∙ sym (ap (fen_reading_as p.variant) is) ∙ law p sound in
    let argument : argument_of (codes "setboard " ++ text) ≡ text = takes text (subst Starts is (fen_starts p)) in
    let second = responds_by set setting (codes "setboard " ++ text) SetBoard sets_it.fits sets_it.is (sets text) in
    ap (λ (r : Response SessionSeen). r.state.state) second
    ∙ ap (λ t. (setboard_row set.state (fen_reading_as set.state.start.variant t)).state) argument
    ∙ ap (λ r. (setboard_row set.state r).state) read

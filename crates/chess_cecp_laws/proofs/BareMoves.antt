-- A bare move, such as `e4`, gets the response of `usermove e4`: both are answered by `move_row` for the same text,
-- since the first word of a bare move is no command's name, and the argument of `usermove` is the whole text after it.
use Rattle.std.proofs.Common.{◌≡◌, ◌∙◌, ℕ, suc, Bool, true, false, ◌==◌, List, [], ◌∷◌, ◌++◌, length, Option, None, refl, sym, ap, arith, bytes_eq, codes, if◌then◌else◌, unwrap_or}
use Rattle.std.specs.List.{list_any}
use Rattle.std.proofs.lemmas.Bool.{ne_eqb, or_parts}
use Rattle.byte_devices.specs.Bytes.{is_blank}
use Rattle.chess_text.specs.Moves.{shape}
use Rattle.text_lines.specs.{Lines.without_front_blanks, Words.argument_of, Words.word_of}
use Rattle.chess_cecp.specs.Commands.{command_of, is_ignored, named_command}
use Rattle.chess_cecp.specs.{Held.SessionSeen, Serving.Response, Session.move_row, Session.session_response, declared.command.Command.Command, declared.command.Command.TheVariants.BareMove, declared.command.Command.TheVariants.Unknown, declared.command.Command.TheVariants.UserMove}
use Rattle.chess_cecp_laws.specs.{GameLines.BareMovesAreMoves, SessionLines.known_words}
use Rattle.chess_cecp_laws.proofs.SessionLines.{if_false, no_name, responds_by}

-- ---- a text whose first word is not empty

-- if the word that begins at a byte is not empty, that byte is no space or tab
word_by : (blank : Bool) (word : List ℕ) → bytes_eq (if blank then [] else word) [] ≡ false → blank ≡ false
word_by true word e = absurd (cc)
word_by false word e = refl

-- such a text has no spaces or tabs at its front
kept : (text : List ℕ) → bytes_eq (word_of text) [] ≡ false → without_front_blanks text ≡ text
kept [] e = refl
kept (c ∷ cs) e =
    if_false (is_blank c) (without_front_blanks cs) (c ∷ cs) (word_by (is_blank c) (c ∷ word_of cs) e)

more_than_none : (n : ℕ) → (suc n == 0) ≡ false
more_than_none n = ne_eqb (suc n) 0 (λ e. omega (arith, e))

-- and it is not empty
filled : (text : List ℕ) → bytes_eq (word_of text) [] ≡ false → (length text == 0) ≡ false
filled [] e = absurd (cc)
filled (c ∷ cs) e = more_than_none (length cs)

-- the empty word is the first of the known words, so a first word that is none of them is not empty
word_there : (text : List ℕ) → list_any (bytes_eq (word_of text)) known_words ≡ false
    → bytes_eq (word_of text) [] ≡ false
word_there text e = (or_parts (bytes_eq (word_of text) []) _ e).0

-- ---- the two commands

-- a first word that names no command, in a text that has a move's shape: a bare move
shaped : (named : Option Command) (b : Bool) → named ≡ None → b ≡ true
    → unwrap_or named (if b then BareMove else Unknown) ≡ BareMove
shaped named b e f = rw (e, f) refl

-- a text with a move's shape, whose first word is no known word, is a bare move
is_bare : (text : List ℕ) → list_any (bytes_eq (word_of text)) known_words ≡ false → shape text ≡ true
    → command_of text ≡ BareMove
unfolding command_of
is_bare text other e =
    shaped (named_command (word_of text) (argument_of text)) (shape text)
    (no_name (word_of text) (argument_of text) other) e

-- the argument of `usermove ` and this text is the text
argument_is : (text : List ℕ) → bytes_eq (word_of text) [] ≡ false → argument_of (codes "usermove " ++ text) ≡ text
unfolding argument_of
argument_is text e = kept text e

-- `usermove ` and then this text is the command `usermove`, since the argument is not empty
is_named : (text : List ℕ) → bytes_eq (word_of text) [] ≡ false → command_of (codes "usermove " ++ text) ≡ UserMove
unfolding command_of named_command is_ignored
is_named text e =
    if_false (length (argument_of (codes "usermove " ++ text)) == 0) Unknown UserMove
    (ap (λ (a : List ℕ). length a == 0) (argument_is text e) ∙ filled text e)

-- ---- the law

-- how a session responds to a move with this text
abbrev by_move : SessionSeen → List ℕ → Response SessionSeen
by_move session text =
    let r = move_row session.limit session.state text in
    record { text = r.text; state = record session { state = r.state }; ends = r.ends }

pub bare_moves_are_moves : BareMovesAreMoves
bare_moves_are_moves session bare named fits also other e is =
    let there = word_there bare.text other in
    let first : session_response session bare ≡ by_move session bare.text =
    responds_by session bare BareMove fits (is_bare bare.text other e) in
    let command : command_of named.text ≡ UserMove = ap command_of is ∙ is_named bare.text there in
    let second : session_response session named ≡ by_move session (argument_of named.text) =
    responds_by session named UserMove also command in
    let argument : argument_of named.text ≡ bare.text = ap argument_of is ∙ argument_is bare.text there in
    first ∙ ap (by_move session) (sym argument) ∙ sym second

-- What stubs answer and play: each answer is computed from the definition of a stub, by the texts of its arguments.
use Rattle.std.proofs.Common.{◌≡◌, ◌∙◌, ◌+◌, ℕ, Bor, true, List, [], ◌∷◌, ◌++◌, is_some, unwrap_or, if◌then◌else◌, refl, ap, bytes_eq, codes, cond, flat_map, take}
use Rattle.std.specs.{Fmt.digits, List.prefix_len}
use Rattle.chess_cecp.specs.Commands.{command_of, is_ignored, named_command}
use Rattle.chess_cecp.specs.Serving.{Response, says}
use Rattle.stub_engine.specs.Stub.{Arguments, StubState, after_remarks, is_remark, played_text, playing, remark, remarks, stub_response, stub_row, waiting}
use Rattle.text_lines.specs.Words.{argument_of, command_number}
use Rattle.arbiter_laws.specs.StubLines.{StubAnswers, StubLinesAreAnswered, StubSays, stub_features, stub_response_to}

features : (s : StubState) → StubAnswers s "protover 2" stub_features s
unfolding argument_of command_number command_of named_command is_ignored stub_response stub_row
features s = record { text = refl; state = refl; goes_on = refl }

first_version : (s : StubState) → StubAnswers s "protover 1" stub_features s
unfolding argument_of command_number command_of named_command is_ignored stub_response stub_row
first_version s = record { text = refl; state = refl; goes_on = refl }

ping : (s : StubState) → StubAnswers s "ping 7" "pong 7\n" s
unfolding argument_of command_number command_of named_command is_ignored digits stub_response stub_row
ping s = record { text = refl; state = refl; goes_on = refl }

new : (s : StubState) → StubAnswers s "new" "" (waiting s.arguments)
unfolding argument_of command_of named_command is_ignored stub_response stub_row
new s = record { text = refl; state = refl; goes_on = refl }

force : (s : StubState) → StubAnswers s "force" "" (waiting s.arguments)
unfolding argument_of command_of named_command is_ignored stub_response stub_row
force s = record { text = refl; state = refl; goes_on = refl }

other_lines : (s : StubState) → StubAnswers s "time 30000" "" s
unfolding argument_of command_of named_command is_ignored stub_response stub_row
other_lines s = record { text = refl; state = refl; goes_on = refl }

quit : (s : StubState) → (stub_response_to s "quit").ends ≡ true
unfolding argument_of command_of named_command is_ignored stub_response stub_row
quit s = refl

no_turn : (arguments : Arguments) → StubAnswers (waiting arguments) "usermove e2e4" "" (waiting arguments)
unfolding argument_of command_of named_command is_ignored stub_response stub_row
no_turn arguments = record { text = refl; state = refl; goes_on = refl }

nothing_at_go : StubAnswers (waiting []) "go" "resign\n" (playing [])
unfolding argument_of command_of named_command is_ignored stub_response stub_row
nothing_at_go = record { text = refl; state = refl; goes_on = refl }

nothing_at_a_move : StubAnswers (playing []) "usermove e2e4" "resign\n" (playing [])
unfolding argument_of command_of named_command is_ignored stub_response stub_row
nothing_at_a_move = record { text = refl; state = refl; goes_on = refl }

-- ---- what is played

-- the turn of a stub whose next argument has the text `argument`, with the arguments `others` after it; `said` are the
-- remarks that these begin with
abbrev turn_by : Arguments → List ℕ → List ℕ → Response StubState
turn_by others said argument =
    if bytes_eq argument (codes "end") then record (says (playing others) (codes "mov")) { ends = true }
    else says (playing (after_remarks others)) (played_text argument ++ said)

plays : (a : Bor (List ℕ)) → a.now ≡ codes "e2e4" → StubSays (waiting (a ∷ [])) "go" "move e2e4\n"
unfolding argument_of command_of named_command is_ignored remarks stub_response stub_row
plays a e = ap (λ (t : List ℕ). (turn_by [] (remarks []) t).text) e

resigns : (a : Bor (List ℕ)) → a.now ≡ codes "resign" → StubSays (waiting (a ∷ [])) "go" "resign\n"
unfolding argument_of command_of named_command is_ignored remarks stub_response stub_row
resigns a e = ap (λ (t : List ℕ). (turn_by [] (remarks []) t).text) e

breaks_off : (a : Bor (List ℕ)) → a.now ≡ codes "end" → StubSays (waiting (a ∷ [])) "go" "mov"
unfolding argument_of command_of named_command is_ignored remarks stub_response stub_row
breaks_off a e = ap (λ (t : List ℕ). (turn_by [] (remarks []) t).text) e

-- what is said for an argument
abbrev said_of : Bor (List ℕ) → List ℕ
said_of argument = unwrap_or (remark argument.now) []

offered : (b : Bor (List ℕ)) → b.now ≡ codes "offer" → remarks (b ∷ []) ≡ codes "offer draw\n"
unfolding remarks
offered b e =
    ap (λ (t : List ℕ). flat_map said_of (take (cond (is_some (remark t)) (1 + prefix_len is_remark []) 0) (b ∷ []))) e
    ∙ ap (λ (t : List ℕ). unwrap_or (remark t) [] ++ []) e

offers : (a b : Bor (List ℕ)) → a.now ≡ codes "e2e4" → b.now ≡ codes "offer"
    → StubSays (waiting (a ∷ b ∷ [])) "go" "move e2e4\noffer draw\n"
unfolding argument_of command_of named_command is_ignored stub_response stub_row
offers a b e f =
    ap (λ (t : List ℕ). (turn_by (b ∷ []) (remarks (b ∷ [])) t).text) e
    ∙ ap (λ (said : List ℕ). codes "move e2e4\n" ++ said) (offered b f)

pub stub_lines_are_answered : StubLinesAreAnswered
stub_lines_are_answered s arguments = record {
  features = features s;
  first_version = first_version s;
  ping = ping s;
  new = new s;
  force = force s;
  others = other_lines s;
  quit = quit s;
  no_turn = no_turn arguments;
  nothing_at_go = nothing_at_go;
  nothing_at_a_move = nothing_at_a_move;
  plays = plays;
  resigns = resigns;
  breaks_off = breaks_off;
  offers = offers;
}

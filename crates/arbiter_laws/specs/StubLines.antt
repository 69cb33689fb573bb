-- Lines that a stub, an engine that plays given moves, answers (CECP, version 2).
use Rattle.std.specs.Prelude.{◌≡◌, ℕ, true, false, List, [], ◌∷◌, codes}
use Prim.Native.String.{String as Text}
use Rattle.std.specs.Borrow.{Bor}
use Rattle.chess_cecp.specs.Serving.{Response}
use Rattle.stub_engine.specs.Stub.{Arguments, StubState, playing, stub_response, waiting}

-- what a stub in the state `s` does with a line that has this text
abbrev pub stub_response_to : StubState → Text → Response StubState
stub_response_to s line = stub_response s (record { text = codes line; too_long = false; ended = true })

-- in the state `s` a stub answers this line with this text
abbrev pub StubSays : StubState → Text → Text → Type 0
StubSays s line answer = (stub_response_to s line).text ≡ codes answer

-- in the state `s` a stub answers this line with this text, and goes on in the state `s'`
pub record StubAnswers (s : StubState) (line answer : Text) (s' : StubState) : Type 0 where
  pub text : StubSays s line answer
  pub state : (stub_response_to s line).state ≡ s'
  pub goes_on : (stub_response_to s line).ends ≡ false

-- the line by which a stub says its features
abbrev pub stub_features : Text
stub_features = "feature ping=1 setboard=1 usermove=1 myname=\"stub\" done=1\n"

-- how a stub answers some lines: in the state `s`; with `arguments` left to play; and with none, one or two left
pub record StubLines (s : StubState) (arguments : Arguments) : Type 0 where
  -- its features are said to each version of the protocol
  pub features : StubAnswers s "protover 2" stub_features s
  pub first_version : StubAnswers s "protover 1" stub_features s
  pub ping : StubAnswers s "ping 7" "pong 7\n" s
  -- from `new` and from `force` on it plays no side; what it has played doesn't come again
  pub new : StubAnswers s "new" "" (waiting s.arguments)
  pub force : StubAnswers s "force" "" (waiting s.arguments)
  pub others : StubAnswers s "time 30000" "" s
  pub quit : (stub_response_to s "quit").ends ≡ true
  -- a move that it is sent while it plays no side
  pub no_turn : StubAnswers (waiting arguments) "usermove e2e4" "" (waiting arguments)
  -- with nothing left to play it resigns: at `go`, and at a move while it plays a side
  pub nothing_at_go : StubAnswers (waiting []) "go" "resign\n" (playing [])
  pub nothing_at_a_move : StubAnswers (playing []) "usermove e2e4" "resign\n" (playing [])
  -- with one argument left: a move, `resign`, and `end`, for which it writes only the beginning of a line
  pub plays : (a : Bor (List ℕ)) → a.now ≡ codes "e2e4" → StubSays (waiting (a ∷ [])) "go" "move e2e4\n"
  pub resigns : (a : Bor (List ℕ)) → a.now ≡ codes "resign" → StubSays (waiting (a ∷ [])) "go" "resign\n"
  pub breaks_off : (a : Bor (List ℕ)) → a.now ≡ codes "end" → StubSays (waiting (a ∷ [])) "go" "mov"
  -- an offer of a draw, said right after the move before it
  pub offers : (a b : Bor (List ℕ)) → a.now ≡ codes "e2e4" → b.now ≡ codes "offer"
      → StubSays (waiting (a ∷ b ∷ [])) "go" "move e2e4\noffer draw\n"

-- stubs answer so in every state, with any arguments
abbrev pub StubLinesAreAnswered : Type 0
StubLinesAreAnswered = (s : StubState) (arguments : Arguments) → StubLines s arguments

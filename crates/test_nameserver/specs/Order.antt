-- The command line of the server's program: `--port N --zone PATH --count N`, in this order (this project's profile).
use Rattle.std.specs.Prelude.{◌≡◌, ◌≢◌, ℕ, ◌<◌, List, [], ◌∷◌, codes, Some}
use Rattle.test_nameserver.specs.declared.order.Ordered.{Ordered}
use Rattle.test_nameserver.specs.Words.{number_up_to}

-- what a command line orders: to listen on this port, to answer from the zone of this file, and to take so many messages
pub record Order : Type 0 where
  pub port : ℕ
  pub path : List ℕ
  pub count : ℕ

-- the word is this number, which is one from 1 to 65535
pub record IsNumber (word : List ℕ) (number : ℕ) : Type 0 where
  pub digits : number_up_to 65535 word ≡ Some number
  pub some : 0 < number

-- the command line with these values
abbrev pub line_of : List ℕ → List ℕ → List ℕ → List (List ℕ)
line_of port path count = codes "--port" ∷ port ∷ codes "--zone" ∷ path ∷ codes "--count" ∷ count ∷ []

-- these words order this
pub record Orders (words : List (List ℕ)) (order : Order) : Type 0 where
  pub port : List ℕ
  pub count : List ℕ
  pub form : words ≡ line_of port order.path count
  pub port_is : IsNumber port order.port
  pub path_is : order.path ≢ []
  pub count_is : IsNumber count order.count

-- these words are of no such form
abbrev pub AreRefused : List (List ℕ) → Type 0
AreRefused words = (order : Order) → Orders words order → ⊥

-- this holds of what the words order, if they are understood
abbrev pub ForWords : List (List ℕ) → (Order → Type 0) → Type 0
ForWords words holds = (order : Order) → Orders words order → holds order

-- an order as it is borrowed from the words
abbrev pub order_seen : Ordered → Order
order_seen order = record { port = order.port; path = order.path.now; count = order.count }

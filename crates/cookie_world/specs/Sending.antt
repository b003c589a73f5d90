-- How a query goes to a server, and what is noted of it.
use Rattle.std.specs.Prelude.{ℕ, List, [], ◌∷◌, Option, Some, None, option_map}
use Rattle.std.specs.Option.{option_and_then}
use Rattle.std.specs.Int.{w16, from_be_bytes}
use Rattle.dns_cookie.specs.Cookie.{cookied}
use Rattle.cookie_world.specs.State.{known_cookie}
use Rattle.dns_cookie.specs.declared.judging.Way.{Way}
use Rattle.dns_cookie.specs.declared.judging.Way.TheVariants.{Plain, Cookied}
use Rattle.cookie_world.specs.declared.sending.Wire.{Wire}
use Rattle.cookie_world.specs.declared.state.Peer.{Peer}
use Rattle.cookie_world.specs.declared.state.Query.{Query}

-- the query with its cookie, or as it is
abbrev pub wire_by : List ℕ → Option (List ℕ) → Wire
wire_by bytes None = record { bytes = bytes; way = Plain }
wire_by bytes (Some sent) = record { bytes = sent; way = Cookied }

-- how a query goes to a server: with the cookie of a server that was told, where it can carry one
abbrev pub wire_of : List Peer → ℕ → List ℕ → Wire
wire_of peers server bytes = wire_by bytes (option_and_then (λ cookie. cookied cookie bytes) (known_cookie server peers))

-- the identifier of a query: its first two bytes (RFC 1035, section 4.1.1)
abbrev pub id_of : List ℕ → Option ℕ
id_of [] = None
id_of (high ∷ []) = None
id_of (high ∷ low ∷ bytes) = Some (from_be_bytes w16 (high ∷ low ∷ []))

-- what is noted of a query that goes in this way, where it has an identifier
abbrev pub noted : ℕ → List ℕ → Way → Option Query
noted server bytes way = option_map (λ id. record { server = server; id = id; bytes = bytes; way = way }) (id_of bytes)

-- The words of a command line, one by one.
use Rattle.std.proofs.Common.{◌≡◌, ◌≢◌, ◌∙◌, ℕ, ◌-◌, ◌<◌, ◌≤◌, Bool, false, List, [], ◌∷◌, length, map, take, drop, get_or, refl, ap, sym, subst, arith, Bor}
use Rattle.std.specs.Prelude.{IsTrue, Some, codes, ◌↔◌}
use Rattle.std.proofs.lemmas.List.{length-map, take_rest}
use Rattle.net_addr.specs.Reading.{address_of}
use Rattle.net_addr.specs.declared.addr.Addr.{Addr}
use Rattle.tool_line.specs.Values.{number_in}
use Rattle.tool_line.specs.Words.{Text}
use Rattle.acache_tool.specs.Asked.{Asked, Asks}

abbrev texts : List (Bor Text) → List Text
texts ws = map (λ w. w.now) ws

first_same : (a b : Text) (xs ys : List Text) → a ∷ xs ≡ b ∷ ys → a ≡ b
first_same a b xs ys e = cc

rest_same : (a b : Text) (xs ys : List Text) → a ∷ xs ≡ b ∷ ys → xs ≡ ys
rest_same a b xs ys e = cc

-- too few words
pub refused_short : (ws : List (Bor Text)) → length ws < 4 → (asked : Asked) → Asks (texts ws) asked → ⊥
refused_short ws few asked asks = absurd (omega (arith, few, ap length asks.are, length-map ws (λ (w : Bor Text). w.now)))

-- the first word is another
pub refused_server : (ws : List (Bor Text)) (d : Bor Text) (r : Bool) → r ≡ false → IsTrue r ↔ ((get_or ws 0 d).now ≡ codes "--server") → (asked : Asked) → Asks (texts ws) asked → ⊥
refused_server [] d r is says asked asks = absurd (let h = asks.are in cc h)
refused_server (w ∷ ws) d r is says asked asks = absurd (let yes_ = says.1 (first_same w.now (codes "--server") _ _ asks.are) in cc (sym yes_ ∙ is))

-- the third word is another
pub refused_room : (ws : List (Bor Text)) (d : Bor Text) (r : Bool) → r ≡ false → IsTrue r ↔ ((get_or ws 2 d).now ≡ codes "--room") → (asked : Asked) → Asks (texts ws) asked → ⊥
refused_room [] d r is says asked asks = absurd (let h = asks.are in cc h)
refused_room (a ∷ []) d r is says asked asks = absurd (let h = asks.are in cc h)
refused_room (a ∷ b ∷ []) d r is says asked asks = absurd (let h = asks.are in cc h)
refused_room (a ∷ b ∷ w ∷ ws) d r is says asked asks =
    absurd (let yes_ = says.1 (first_same w.now (codes "--room") _ _ (rest_same b.now asks.address _ _ (rest_same a.now (codes "--server") _ _ asks.are))) in cc (sym yes_ ∙ is))

-- there is no name
no_items : {A : Type 0} (xs : List A) → length xs < 1 → xs ≡ []
no_items [] none = refl
no_items (x ∷ xs) none = absurd (omega (arith, none))

pub refused_nameless : (ws : List (Bor Text)) → length (take (length ws - 4) (drop 4 ws)) < 1 → (asked : Asked) → Asks (texts ws) asked → ⊥
refused_nameless [] none asked asks = absurd (let h = asks.are in cc h)
refused_nameless (a ∷ []) none asked asks = absurd (let h = asks.are in cc h)
refused_nameless (a ∷ b ∷ []) none asked asks = absurd (let h = asks.are in cc h)
refused_nameless (a ∷ b ∷ c ∷ []) none asked asks = absurd (let h = asks.are in cc h)
refused_nameless (a ∷ b ∷ c ∷ d ∷ ws) none asked asks =
    let all : take (length (a ∷ b ∷ c ∷ d ∷ ws) - 4) ws ≡ ws = take_rest (a ∷ b ∷ c ∷ d ∷ ws) 4 in
    let empty : ws ≡ [] = no_items ws (subst (λ xs. length xs < 1) all none) in
    let names : texts ws ≡ asked.names = rest_same d.now asks.room _ _ (rest_same c.now (codes "--room") _ _ (rest_same b.now asks.address _ _ (rest_same a.now (codes "--server") _ _ asks.are))) in
    asks.some (sym names ∙ ap texts empty)

-- what the words ask
pub asks_words : (ws : List (Bor Text)) (d0 d1 d2 d3 : Bor Text) (server : Addr) (room : ℕ) → 4 ≤ length ws → (get_or ws 0 d0).now ≡ codes "--server" → (get_or ws 2 d2).now ≡ codes "--room" →
    address_of (get_or ws 1 d1).now ≡ Some server → number_in 1 65536 (get_or ws 3 d3).now ≡ Some room → 1 ≤ length (take (length ws - 4) (drop 4 ws)) →
    Asks (texts ws) (record { server = server; room = room; names = texts (take (length ws - 4) (drop 4 ws)) })
asks_words [] d0 d1 d2 d3 server room enough is_server is_room address count some = absurd (omega (arith, enough))
asks_words (a ∷ []) d0 d1 d2 d3 server room enough is_server is_room address count some = absurd (omega (arith, enough))
asks_words (a ∷ b ∷ []) d0 d1 d2 d3 server room enough is_server is_room address count some = absurd (omega (arith, enough))
asks_words (a ∷ b ∷ c ∷ []) d0 d1 d2 d3 server room enough is_server is_room address count some = absurd (omega (arith, enough))
asks_words (a ∷ b ∷ c ∷ d ∷ ws) d0 d1 d2 d3 server room enough is_server is_room address count some =
    let all : take (length (a ∷ b ∷ c ∷ d ∷ ws) - 4) ws ≡ ws = take_rest (a ∷ b ∷ c ∷ d ∷ ws) 4 in
    record {
      address = b.now;
      room = d.now;
      are =
          ap (λ x. x ∷ b.now ∷ c.now ∷ d.now ∷ texts ws) is_server
          ∙ ap (λ x. codes "--server" ∷ b.now ∷ x ∷ d.now ∷ texts ws) is_room
          ∙ ap (λ xs. codes "--server" ∷ b.now ∷ codes "--room" ∷ d.now ∷ texts xs) (sym all);
      server = address;
      count = count;
      some = λ none. absurd (omega (arith, some, ap length none, length-map (take (length (a ∷ b ∷ c ∷ d ∷ ws) - 4) ws) (λ (w : Bor Text). w.now)));
    }

-- how many names there are
pub some_named : {A : Type 0} (n : ℕ) (xs : List A) → n ≡ length xs → n ≢ 0 → 1 ≤ length xs
some_named n [] is some = absurd (some is)
some_named n (x ∷ xs) is some = omega arith

pub none_named : {A : Type 0} (n : ℕ) (xs : List A) → n ≡ length xs → n ≡ 0 → length xs < 1
none_named n xs is none = omega (arith, is, none)

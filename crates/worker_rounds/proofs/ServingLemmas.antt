-- From a channel's passes over rounds to its passes.
use Rattle.std.proofs.Common.{◌≡◌, ◌∙◌, ◌<◌, ◌≤◌, ℕ, ◌+◌, ◌-◌, List, [], ◌∷◌, ◌++◌, append_assoc, length, map, sum_by, flat_map, refl, ap, ap₂, sym, subst, arith}
use Rattle.std.proofs.lemmas.List.{append-nil, length_push}
use Rattle.std.proofs.lemmas.List.Concat.{flat_map-cons}
use Rattle.std.proofs.lemmas.List.Sorted.{IsPermutation-append_comm, IsPermutation-append_right, IsPermutation-trans}
use Rattle.std.proofs.lemmas.List.Sums.{sum_by-cons}
use Rattle.std.specs.List.{AllByRecursion}
use Rattle.std.specs.List.Sorted.{IsPermutation}
use Rattle.std.specs.Prelude.{drop, remove, slice_index_or, suc, take, zero}
use Rattle.atomic_table.specs.Seated.{TableId}
use Rattle.chan_types.specs.declared.orders.Orders.{Orders}
use Rattle.channel_model.specs.Known.{Known}
use Rattle.delivery_pool.specs.declared.message.Message.{Message}
use Rattle.delivery_pool.specs.declared.working.Worker.{Worker}
use Rattle.delivery_pool.specs.Pools.{AreAll, PoolState, tickets_got, tickets_in, tickets_sent}
use Rattle.delivery_pool.specs.Spending.{Drains, SpendsEach}
use Rattle.pooled_places.specs.Delivery.{SpendsTicket}
use Rattle.pooled_places.specs.Standing.{AreStill}
use Rattle.pooled_places.specs.Tickets.{TicketState}
use Rattle.pooled_places.proofs.Theorems.{stays_each}
use Rattle.shared_channel.specs.Passes.{PassView}
use Rattle.shared_channel.specs.Staying.{AreAt}
use Rattle.ticket_queue.specs.Passes.{IsAt, MaySend, PassState, QueueState, new_pass, receivers_of}
use Rattle.worker_rounds.specs.Course.{tickets_spent, tickets_taken}
use Rattle.worker_rounds.specs.Crews.{AllHaveWorked, AreNewRights, AreNewWorkers, places_of, rights_of}
use Rattle.worker_rounds.specs.Rounds.{RunsRounds}
use Rattle.worker_rounds.specs.Serving.{DrainsFirst, HasServed, IsPoolFor, IsRun, IsStint, RunsOut, Stint}
use Rattle.worker_rounds.proofs.CrewLemmas.{push_each}
use Rattle.worker_rounds.proofs.RoundLemmas.{spends_more}

-- the tickets of stints
abbrev pub spent_in : List Stint → List TicketState
spent_in stints = flat_map (λ (s : Stint). s.tickets) stints

-- the first stint goes on by more tickets, up to this place
module _ (more : List TicketState) where
  abbrev longer : PassView → List Stint → List Stint
  longer last [] = []
  longer last (s ∷ ss) = record { old = s.old; tickets = s.tickets ++ more; new = last } ∷ ss

  longer_old : (last : PassView) (stints : List Stint) → map (λ (s : Stint). s.old) (longer last stints) ≡ map (λ (s : Stint). s.old) stints
  longer_old last [] = refl
  longer_old last (s ∷ ss) = refl

  module _ (first last : PassView) (others : List PassView) where
    longer_new : (stints : List Stint) → map (λ (s : Stint). s.new) stints ≡ first ∷ others → map (λ (s : Stint). s.new) (longer last stints) ≡ last ∷ others
    longer_new [] are = let clash : 0 ≡ suc (length others) = ap length are in absurd (omega (arith, clash))
    longer_new (s ∷ ss) are = ap (λ (l : List PassView). last ∷ drop 1 l) are

    longer_tickets : (stints : List Stint) → map (λ (s : Stint). s.new) stints ≡ first ∷ others → IsPermutation (spent_in stints ++ more) (spent_in (longer last stints))
    longer_tickets [] are = let clash : 0 ≡ suc (length others) = ap length are in absurd (omega (arith, clash))
    longer_tickets (s ∷ ss) are =
        let left : spent_in (s ∷ ss) ++ more ≡ s.tickets ++ (spent_in ss ++ more) = ap (λ l. l ++ more) (flat_map-cons (λ (t : Stint). t.tickets) s ss) ∙ append_assoc s.tickets (spent_in ss) more in
        let right : spent_in (longer last (s ∷ ss)) ≡ s.tickets ++ (more ++ spent_in ss) =
        flat_map-cons (λ (t : Stint). t.tickets) (record { old = s.old; tickets = s.tickets ++ more; new = last }) ss ∙ append_assoc s.tickets more (spent_in ss) in
        subst (λ l. IsPermutation l (spent_in (longer last (s ∷ ss)))) (sym left) (subst (IsPermutation (s.tickets ++ (spent_in ss ++ more))) (sym right)
        (IsPermutation-append_right s.tickets (spent_in ss ++ more) (more ++ spent_in ss) (IsPermutation-append_comm (spent_in ss) more)))

    longer_each : (orders : Orders) (stints : List Stint) → map (λ (s : Stint). s.new) stints ≡ first ∷ others → AllByRecursion (IsStint orders) stints → SpendsEach SpendsTicket (orders, first) more (orders, last) → AllByRecursion (IsStint orders) (longer last stints)
    longer_each orders [] are each spends = let clash : 0 ≡ suc (length others) = ap length are in absurd (omega (arith, clash))
    longer_each orders (s ∷ ss) are each spends =
        let here : s.new ≡ first = ap (λ (l : List PassView). slice_index_or l 0 first) are in (
          spends_more SpendsTicket s.tickets more (orders, s.old) (orders, s.new) (orders, last) each.0 (subst (λ p. SpendsEach SpendsTicket (orders, p) more (orders, last)) (sym here) spends),
          each.1,
        )

module _ {S P : Type 0} (steps : P → Known → P → Known → Type 0) (place : S → PassView) (orders : S → Orders) (given : Orders) (ends : P → Known → Type 0) (pool : PoolState TicketState) where
  abbrev Crew : Type 0
  Crew = List (Worker TicketState S)

  abbrev Right : Type 0
  Right = PassState (Message TicketState)

  -- the workers' passes of the pool behind their work, all together
  now_at : (crew news : Crew) → AreNewWorkers orders pool given crew → AllHaveWorked place orders crew news → AllByRecursion (IsAt pool.queue) (rights_of news) × (sum_by (λ (p : Right). p.share) (rights_of news) ≡ length crew)
  now_at [] [] new all = (tt, refl)
  now_at [] (n ∷ ns) new all = absurd all
  now_at (w ∷ ws) [] new all = absurd all
  now_at (w ∷ ws) (n ∷ ns) new all =
      let rest = now_at ws ns new.1 all.1 in
      let table : n.pass.table ≡ pool.queue.table = ap (λ (p : Right). p.table) all.0.pass_is ∙ ap (λ (p : Right). p.table) new.0.1 in
      let key : n.pass.key ≡ pool.queue.key = ap (λ (p : Right). p.key) all.0.pass_is ∙ ap (λ (p : Right). p.key) new.0.1 in
      let share : n.pass.share ≡ 1 = ap (λ (p : Right). p.share) all.0.pass_is ∙ ap (λ (p : Right). p.share) new.0.1 in
      (((table, key), rest.0), omega (arith, sum_by-cons (λ (p : Right). p.share) n.pass (rights_of ns), share, rest.1))

  -- they sent nothing
  now_sent : (crew news : Crew) → AreNewWorkers orders pool given crew → AllHaveWorked place orders crew news → tickets_sent (rights_of news) ≡ []
  now_sent [] [] new all = refl
  now_sent [] (n ∷ ns) new all = absurd all
  now_sent (w ∷ ws) [] new all = absurd all
  now_sent (w ∷ ws) (n ∷ ns) new all =
      let none : tickets_in n.pass.sent ≡ [] = ap (λ (p : Right). tickets_in p.sent) all.0.pass_is ∙ ap (λ (p : Right). tickets_in p.sent) new.0.1 in
      flat_map-cons (λ (p : Right). tickets_in p.sent) n.pass (rights_of ns) ∙ ap (λ l. l ++ tickets_sent (rights_of ns)) none ∙ now_sent ws ns new.1 all.1

  -- their stints
  abbrev stints_of : (crew news : Crew) → AllHaveWorked place orders crew news → List Stint
  stints_of [] [] all = []
  stints_of [] (n ∷ ns) all = absurd all
  stints_of (w ∷ ws) [] all = absurd all
  stints_of (w ∷ ws) (n ∷ ns) all = record { old = place w.spender; tickets = all.0.tickets; new = place n.spender } ∷ stints_of ws ns all.1

  stints_old : (crew news : Crew) (all : AllHaveWorked place orders crew news) → map (λ (s : Stint). s.old) (stints_of crew news all) ≡ places_of place crew
  stints_old [] [] all = refl
  stints_old [] (n ∷ ns) all = absurd all
  stints_old (w ∷ ws) [] all = absurd all
  stints_old (w ∷ ws) (n ∷ ns) all = ap (λ l. place w.spender ∷ l) (stints_old ws ns all.1)

  stints_new : (crew news : Crew) (all : AllHaveWorked place orders crew news) → map (λ (s : Stint). s.new) (stints_of crew news all) ≡ places_of place news
  stints_new [] [] all = refl
  stints_new [] (n ∷ ns) all = absurd all
  stints_new (w ∷ ws) [] all = absurd all
  stints_new (w ∷ ws) (n ∷ ns) all = ap (λ l. place n.spender ∷ l) (stints_new ws ns all.1)

  stints_each : (crew news : Crew) (all : AllHaveWorked place orders crew news) → AreNewWorkers orders pool given crew → AllByRecursion (IsStint given) (stints_of crew news all)
  stints_each [] [] all new = tt
  stints_each [] (n ∷ ns) all new = absurd all
  stints_each (w ∷ ws) [] all new = absurd all
  stints_each (w ∷ ws) (n ∷ ns) all new =
      let stay : orders n.spender ≡ given = (stays_each all.0.tickets (orders w.spender, place w.spender) (orders n.spender, place n.spender) all.0.spent).0 ∙ new.0.2 in
      (subst (λ o. SpendsEach SpendsTicket (given, place w.spender) all.0.tickets (o, place n.spender)) stay (subst (λ o. SpendsEach SpendsTicket (o, place w.spender) all.0.tickets (orders n.spender, place n.spender)) new.0.2 all.0.spent), stints_each ws ns all.1 new.1)

  stints_got : (crew news : Crew) (all : AllHaveWorked place orders crew news) → AreNewWorkers orders pool given crew → tickets_got (rights_of news) ≡ flat_map (λ (s : Stint). s.tickets) (stints_of crew news all)
  stints_got [] [] all new = refl
  stints_got [] (n ∷ ns) all new = absurd all
  stints_got (w ∷ ws) [] all new = absurd all
  stints_got (w ∷ ws) (n ∷ ns) all new =
      let got : tickets_in n.pass.got ≡ all.0.tickets = all.0.got ∙ ap (λ (p : Right). tickets_in p.got ++ all.0.tickets) new.0.1 in
      flat_map-cons (λ (p : Right). tickets_in p.got) n.pass (rights_of ns) ∙ ap₂ (λ xs ys. xs ++ ys) got (stints_got ws ns all.1 new.1)
      ∙ sym (flat_map-cons (λ (s : Stint). s.tickets) (record { old = place w.spender; tickets = all.0.tickets; new = place n.spender }) (stints_of ws ns all.1))

  module _ (count : ℕ) (owner owner_new : PassView × P) (right right_new : Right) (crew news : Crew)
      (few : count ≤ 16) (as_many : length crew ≡ count) (right_is : right ≡ new_pass pool.queue (1024 - count)) (new : AreNewWorkers orders pool given crew)
      (ran : RunsRounds steps place orders given ends owner right crew owner_new right_new news) where
    -- the pool's passes are all of its passes
    all_of_pool : AreAll pool.queue (right_new ∷ rights_of news)
    all_of_pool =
        let workers = now_at crew news new ran.ran.works in
        let same = ran.ran.shares.right_is in
        let table : right_new.table ≡ pool.queue.table = ap (λ (p : Right). p.table) same ∙ ap (λ (p : Right). p.table) right_is in
        let key : right_new.key ≡ pool.queue.key = ap (λ (p : Right). p.key) same ∙ ap (λ (p : Right). p.key) right_is in
        let share : right_new.share ≡ 1024 - count = ap (λ (p : Right). p.share) same ∙ ap (λ (p : Right). p.share) right_is in
        record {
          each = ((table, key), workers.0);
          shares = omega (arith, few, as_many, share, workers.1, sum_by-cons (λ (p : Right). p.share) right_new (rights_of news));
        }

    -- and what nobody had received is spent through the first worker's place
    module _ (workers : List PassView) (spent : ℕ) (first last : PassView) (others : List PassView) (are : places_of place crew ≡ workers) (front_is : places_of place news ≡ first ∷ others)
        (drains : Drains SpendsTicket (right_new ∷ rights_of news) spent (given, first) (given, last)) where
      abbrev stints : List Stint
      stints = stints_of crew news ran.ran.works

      stints_front : map (λ (s : Stint). s.new) stints ≡ first ∷ others
      stints_front = stints_new crew news ran.ran.works ∙ front_is

      -- what was sent, and what was received
      sent_is : tickets_sent (right_new ∷ rights_of news) ≡ ran.ran.shares.sent
      sent_is =
          flat_map-cons (λ (p : Right). tickets_in p.sent) right_new (rights_of news) ∙ ap (λ l. tickets_in right_new.sent ++ l) (now_sent crew news new ran.ran.works) ∙ append-nil (tickets_in right_new.sent)
          ∙ ran.ran.shares.sends ∙ ap (λ (p : Right). tickets_in p.sent ++ ran.ran.shares.sent) right_is

      got_is : tickets_got (right_new ∷ rights_of news) ≡ spent_in stints
      got_is =
          let none : tickets_in right_new.got ≡ [] = ap (λ (p : Right). tickets_in p.got) ran.ran.shares.right_is ∙ ap (λ (p : Right). tickets_in p.got) right_is in
          flat_map-cons (λ (p : Right). tickets_in p.got) right_new (rights_of news) ∙ ap (λ l. l ++ tickets_got (rights_of news)) none ∙ stints_got crew news ran.ran.works new

      sent_out : IsPermutation ran.ran.shares.sent (spent_in stints ++ drains.tickets)
      sent_out = subst (λ l. IsPermutation l (spent_in stints ++ drains.tickets)) sent_is (subst (λ l. IsPermutation (tickets_sent (right_new ∷ rights_of news)) (l ++ drains.tickets)) got_is drains.all)

      once : IsPermutation (tickets_taken ran.ran.shares.deeds) (tickets_spent ran.ran.shares.deeds ++ spent_in (longer drains.tickets last stints))
      once =
          let shares = ran.ran.shares in
          let all : IsPermutation shares.sent (spent_in (longer drains.tickets last stints)) =
          IsPermutation-trans shares.sent (spent_in stints ++ drains.tickets) (spent_in (longer drains.tickets last stints)) sent_out (longer_tickets drains.tickets first last others stints stints_front) in
          IsPermutation-trans (tickets_taken shares.deeds) (shares.sent ++ tickets_spent shares.deeds) (tickets_spent shares.deeds ++ spent_in (longer drains.tickets last stints)) shares.shared
          (IsPermutation-trans (shares.sent ++ tickets_spent shares.deeds) (tickets_spent shares.deeds ++ shares.sent) (tickets_spent shares.deeds ++ spent_in (longer drains.tickets last stints)) (IsPermutation-append_comm shares.sent (tickets_spent shares.deeds))
          (IsPermutation-append_right (tickets_spent shares.deeds) shares.sent (spent_in (longer drains.tickets last stints)) all))

      served : HasServed steps ends given owner.0 workers owner.1 owner_new.0 (last ∷ others) owner_new.1
      served = record {
        deeds = ran.ran.shares.deeds;
        course = ran.ran.shares.course;
        ended = ran.ended;
        stints = longer drains.tickets last stints;
        olds = longer_old drains.tickets last stints ∙ stints_old crew news ran.ran.works ∙ are;
        news = longer_new drains.tickets first last others stints stints_front;
        each = longer_each drains.tickets first last others given stints stints_front (stints_each crew news ran.ran.works new) drains.spent;
        once = once;
      }

-- each of these workers worked, so they are as many as before
module _ {S : Type 0} (place : S → PassView) (orders : S → Orders) where
  pub worked_len : (olds news : List (Worker TicketState S)) → AllHaveWorked place orders olds news → length news ≡ length olds
  worked_len [] [] all = refl
  worked_len [] (n ∷ ns) all = absurd all
  worked_len (o ∷ os) [] all = absurd all
  worked_len (o ∷ os) (n ∷ ns) all = ap suc (worked_len os ns all.1)

  -- and their places are the same still
  pub crew_stays : (olds news : List (Worker TicketState S)) → AllHaveWorked place orders olds news → AreStill (places_of place olds) (places_of place news)
  crew_stays [] [] all = tt
  crew_stays [] (n ∷ ns) all = absurd all
  crew_stays (o ∷ os) [] all = absurd all
  crew_stays (o ∷ os) (n ∷ ns) all = ((stays_each all.0.tickets (orders o.spender, place o.spender) (orders n.spender, place n.spender) all.0.spent).1, crew_stays os ns all.1)

  pub places_len : (crew : List (Worker TicketState S)) → length (places_of place crew) ≡ length crew
  places_len [] = refl
  places_len (w ∷ ws) = ap suc (places_len ws)

-- the pool's passes, apart from each other: the sender's, and the workers'
module _ (count : ℕ) (pool : PoolState TicketState) (rights rest : List (PassState (Message TicketState))) (right : PassState (Message TicketState)) (new : IsPoolFor count pool rights) (front_is : right ≡ slice_index_or rights 0 right) (rest_is : rest ≡ remove rights 0) where
  pub right_new : right ≡ new_pass pool.queue (1024 - count)
  right_new = front_is ∙ ap (λ l. slice_index_or l 0 right) new.new.queue_is.passes_are

  others_are : rest ≡ receivers_of pool.queue count
  others_are = rest_is ∙ ap (λ l. remove l 0) new.new.queue_is.passes_are

  receivers_new : (n : ℕ) → AreNewRights pool.queue (receivers_of pool.queue n)
  receivers_new zero = tt
  receivers_new (suc n) = push_each (λ r. r ≡ new_pass pool.queue 1) (receivers_of pool.queue n) (new_pass pool.queue 1) (receivers_new n) refl

  pub rights_new : AreNewRights pool.queue rest
  rights_new = subst (AreNewRights pool.queue) (sym others_are) (receivers_new count)

  receivers_len : (n : ℕ) → length (receivers_of pool.queue n) ≡ n
  receivers_len zero = refl
  receivers_len (suc n) = omega (arith, length_push (receivers_of pool.queue n) (new_pass pool.queue 1), receivers_len n)

  pub rights_len : length rest ≡ count
  rights_len = ap length others_are ∙ receivers_len count

  -- the sender's may send
  pub right_at : IsAt pool.queue right
  right_at = (ap (λ (p : PassState (Message TicketState)). p.table) right_new, ap (λ (p : PassState (Message TicketState)). p.key) right_new)

  pub right_sends : MaySend right
  right_sends = let share : right.share ≡ 1024 - count = ap (λ (p : PassState (Message TicketState)). p.share) right_new in omega (arith, share, new.few)

-- there is one
pub rights_some : (count : ℕ) (pool : PoolState TicketState) (rights : List (PassState (Message TicketState))) → IsPoolFor count pool rights → 0 < length rights
rights_some count pool rights new = subst (λ l. 0 < length l) (sym new.new.queue_is.passes_are) (omega arith)

module _ {S P : Type 0} (steps : P → Known → P → Known → Type 0) (place : S → PassView) (orders : S → Orders) (given : Orders) (ends : P → Known → Type 0) (pool : PoolState TicketState) (count : ℕ) where
  -- rounds that were run with new workers leave a channel that is served as soon as the pool is drained
  pub run_out : (owner owner_new : PassView × P) (workers passes : List PassView) (right : PassState (Message TicketState)) (rights : List (PassState (Message TicketState))) (crew : List (Worker TicketState S))
      → count ≤ 16 → right ≡ new_pass pool.queue (1024 - count) → length crew ≡ count → places_of place crew ≡ workers → AreNewWorkers orders pool given crew → RunsOut steps place orders given ends owner right crew owner_new passes rights
      → IsRun steps ends given pool.queue owner.0 workers owner.1 owner_new.0 passes owner_new.1 rights
  run_out owner owner_new workers passes right rights crew few right_is as_many are new out =
      let ran = out.runs in
      let all = all_of_pool steps place orders given ends pool count owner owner_new right out.right crew out.news few as_many right_is new ran in
      subst (λ ps. IsRun steps ends given pool.queue owner.0 workers owner.1 owner_new.0 ps owner_new.1 rights) (sym out.passes_are)
      (subst (IsRun steps ends given pool.queue owner.0 workers owner.1 owner_new.0 (places_of place out.news) owner_new.1) (sym out.rights_are) (record {
        all = all;
        still = subst (λ l. AreStill l (places_of place out.news)) are (crew_stays place orders crew out.news ran.ran.works);
        drained = λ spent first last others front drains. served steps place orders given ends pool count owner owner_new right out.right crew out.news few as_many right_is new ran workers spent first last others are front drains;
      }))

-- rounds with these workers, which are then taken apart: behind their end stand their passes, and those of the pool behind the sender's
module _ {S P : Type 0} (steps : P → Known → P → Known → Type 0) (place : S → PassView) (orders : S → Orders) (given : Orders) (ends : P → Known → Type 0) where
  pub ran_out : (owner owner_new : PassView × P) (right right_new : PassState (Message TicketState)) (crew olds news behind : List (Worker TicketState S)) (none passes : List PassView) (begun first rights : List (PassState (Message TicketState)))
      → RunsRounds steps place orders given ends owner right olds owner_new right_new news → olds ≡ crew → behind ≡ news → none ≡ [] → passes ≡ none ++ places_of place behind → begun ≡ [] → first ≡ begun ++ right_new ∷ [] → rights ≡ first ++ rights_of behind
      → RunsOut steps place orders given ends owner right crew owner_new passes rights
  ran_out owner owner_new right right_new crew olds news behind none passes begun first rights runs old_is new_is none_is passes_is begun_is first_is rights_is = record {
    right = right_new;
    news = news;
    runs = subst (λ l. RunsRounds steps place orders given ends owner right l owner_new right_new news) old_is runs;
    passes_are = passes_is ∙ ap₂ (λ l ws. l ++ places_of place ws) none_is new_is;
    rights_are = rights_is ∙ ap₂ (λ l ws. l ++ rights_of ws) (first_is ∙ ap (λ l. l ++ right_new ∷ []) begun_is) new_is;
  }

-- what nobody had received was spent through the first place, from its pass to its pass
pub drains_placed : (rights : List (PassState (Message TicketState))) (spent : ℕ) (orders behind : Orders) (first place ran last : PassView) → place ≡ first → behind ≡ orders → last ≡ ran
    → Drains SpendsTicket rights spent (orders, place) (behind, ran) → Drains SpendsTicket rights spent (orders, first) (orders, last)
drains_placed rights spent orders behind first place ran last placed stays left drains =
    subst (λ p. Drains SpendsTicket rights spent (orders, first) (orders, p)) (sym left)
    (subst (λ o. Drains SpendsTicket rights spent (orders, first) (o, ran)) stays (subst (λ p. Drains SpendsTicket rights spent (orders, p) (behind, ran)) placed drains))

-- places that are the same still are at the lock still
pub at_still : (lock : TableId) (olds news : List PassView) → AreStill olds news → AreAt lock olds → AreAt lock news
at_still lock [] [] still at = tt
at_still lock [] (n ∷ ns) still at = absurd still
at_still lock (o ∷ os) [] still at = absurd still
at_still lock (o ∷ os) (n ∷ ns) still at = (ap (λ (p : PassView). p.lock) still.0 ∙ at.0, at_still lock os ns still.1 at.1)

module _ {P : Type 0} (steps : P → Known → P → Known → Type 0) (ends : P → Known → Type 0) (orders : Orders) where
  -- rounds were run through the owner's place, and then the pool was drained: the channel is served
  pub drained_served : (owner place ran owner_new : PassView) (workers between workers_new : List PassView) (pump pump_new : P) (queue : QueueState (Message TicketState)) (rights : List (PassState (Message TicketState)))
      → place ≡ owner → IsRun steps ends orders queue place workers pump ran between pump_new rights → DrainsFirst orders rights between workers_new → owner_new ≡ ran → HasServed steps ends orders owner workers pump owner_new workers_new pump_new
  drained_served owner place ran owner_new workers between workers_new pump pump_new queue rights placed run drains left =
      subst (λ p. HasServed steps ends orders p workers pump owner_new workers_new pump_new) placed
      (subst (λ p. HasServed steps ends orders place workers pump p workers_new pump_new) (sym left)
      (subst (λ l. HasServed steps ends orders place workers pump ran l pump_new) (sym drains.news_are) (run.drained drains.spent drains.first drains.last drains.others drains.olds_are drains.drains)))

-- How a run of the server's program ends, and why.
use Rattle.std.proofs.Common.{◌≡◌, ℕ, List, [], refl, sym, subst, ◌∙◌, ap, arith, inl, inr, ◌⊎◌, ◌≢◌}
use Rattle.std.specs.Prelude.{Option, Some, None, option_map, Err}
use Rattle.dns_message.specs.declared.message.Record.{Record}
use Rattle.net_world.specs.Cause.{Rose}
use Rattle.net_world.specs.Files.{WhereTold}
use Rattle.net_world.specs.declared.answers.Sent.TheVariants.{Sent as WasSent}
use Rattle.test_nameserver.specs.declared.ending.End.{End}
use Rattle.test_nameserver.specs.declared.ending.End.TheVariants.{Served, Refused, FileFault, NoMemory, SocketFault, BadZone}
use Rattle.test_nameserver.specs.Statuses.{status_success, status_usage, status_file_fault, status_sink_fault, status_out_of_memory, status_socket_fault, status_bad_zone}
use Rattle.test_nameserver.specs.declared.listener.ListenerCall.{ListenerCall}
use Rattle.test_nameserver.specs.Ending.{number_of}
use Rattle.test_nameserver.specs.Headline.{GoesBefore, HasBadLine, HasExitCause, IsUnfit, Told}
use Rattle.test_nameserver.specs.Order.{AreRefused, ForWords, Order, Orders, order_seen}
use Rattle.test_nameserver.specs.declared.order.Ordered.{Ordered}
use Rattle.test_nameserver.specs.Service.{GoesOnWith, IsServiceOf, ReadsZone}
use Rattle.test_nameserver.proofs.TurnLemmas.{logs_as}
use Rattle.test_nameserver.specs.Turns.{HasCauseOf, Opens}

-- ---- the exit status

-- a status tells this end, or one of the two that go before
abbrev pub Tells : End → ℕ → Type 0
Tells end status = (status ≡ number_of end) ⊎ (status ≡ status_sink_fault) ⊎ (status ≡ status_out_of_memory)

-- a status that doesn't go before is that of the end
number_is : (end : End) (status number : ℕ) → Tells end status → status ≡ number → number ≢ 4 → number ≢ 5 → number_of end ≡ number
number_is end status number (inl a) is p q = sym a ∙ is
number_is end status number (inr (inl a)) is p q = absurd (p (sym is ∙ a))
number_is end status number (inr (inr a)) is p q = absurd (q (sym is ∙ a))

-- which end a status tells
is_served : (end : End) → number_of end ≡ 0 → end ≡ Served
is_served Served is = refl
is_served Refused is = absurd (omega (arith, is))
is_served FileFault is = absurd (omega (arith, is))
is_served NoMemory is = absurd (omega (arith, is))
is_served SocketFault is = absurd (omega (arith, is))
is_served BadZone is = absurd (omega (arith, is))

is_refused : (end : End) → number_of end ≡ 2 → end ≡ Refused
is_refused Served is = absurd (omega (arith, is))
is_refused Refused is = refl
is_refused FileFault is = absurd (omega (arith, is))
is_refused NoMemory is = absurd (omega (arith, is))
is_refused SocketFault is = absurd (omega (arith, is))
is_refused BadZone is = absurd (omega (arith, is))

is_file_fault : (end : End) → number_of end ≡ 3 → end ≡ FileFault
is_file_fault Served is = absurd (omega (arith, is))
is_file_fault Refused is = absurd (omega (arith, is))
is_file_fault FileFault is = refl
is_file_fault NoMemory is = absurd (omega (arith, is))
is_file_fault SocketFault is = absurd (omega (arith, is))
is_file_fault BadZone is = absurd (omega (arith, is))

is_socket_fault : (end : End) → number_of end ≡ 6 → end ≡ SocketFault
is_socket_fault Served is = absurd (omega (arith, is))
is_socket_fault Refused is = absurd (omega (arith, is))
is_socket_fault FileFault is = absurd (omega (arith, is))
is_socket_fault NoMemory is = absurd (omega (arith, is))
is_socket_fault SocketFault is = refl
is_socket_fault BadZone is = absurd (omega (arith, is))

is_bad_zone : (end : End) → number_of end ≡ 8 → end ≡ BadZone
is_bad_zone Served is = absurd (omega (arith, is))
is_bad_zone Refused is = absurd (omega (arith, is))
is_bad_zone FileFault is = absurd (omega (arith, is))
is_bad_zone NoMemory is = absurd (omega (arith, is))
is_bad_zone SocketFault is = absurd (omega (arith, is))
is_bad_zone BadZone is = refl

-- the status of an end, or one that goes before
status_of : (end other : End) (status : ℕ) → Tells end status → end ≡ other → (status ≡ number_of other) ⊎ GoesBefore status
status_of end other status (inl a) is = inl (a ∙ ap number_of is)
status_of end other status (inr before) is = inr before

-- want of memory goes before
before_of : (end : End) (status : ℕ) → Tells end status → end ≡ NoMemory → GoesBefore status
before_of end status (inl a) is = inr (a ∙ ap number_of is)
before_of end status (inr before) is = before

-- the status is one of a run's
known_status : (end : End) (status : ℕ) → Tells end status →
    (status ≡ status_success) ⊎ (status ≡ status_usage) ⊎ (status ≡ status_file_fault) ⊎ (status ≡ status_socket_fault) ⊎ (status ≡ status_bad_zone) ⊎ GoesBefore status
known_status Served status (inl a) = inl a
known_status Refused status (inl a) = inr (inl a)
known_status FileFault status (inl a) = inr (inr (inl a))
known_status SocketFault status (inl a) = inr (inr (inr (inl a)))
known_status BadZone status (inl a) = inr (inr (inr (inr (inl a))))
known_status NoMemory status (inl a) = inr (inr (inr (inr (inr (inr a)))))
known_status end status (inr before) = inr (inr (inr (inr (inr before))))

-- what is so of the one order of the words
pub for_words : (words : List (List ℕ)) (order : Order) (P : Order → Type 0) → ForWords words (λ other. other ≡ order) → P order → ForWords words P
for_words words order P only p = λ other orders. subst P (sym (only other orders)) p

-- the words have one order where an order is read from them
pub only_order : (words : List (List ℕ)) (read : Ordered) → ((order : Order) → Orders words order → option_map order_seen (Some read) ≡ Some order) → ForWords words (λ other. other ≡ order_seen read)
only_order words read only = λ order orders. let is = only order orders in cc

-- the words are refused where none is read
pub none_ordered : (words : List (List ℕ)) → ((order : Order) → Orders words order → option_map order_seen None ≡ Some order) → AreRefused words
none_ordered words only = λ order orders. let is = only order orders in absurd (cc)

-- what is said of refused words
pub for_none : (words : List (List ℕ)) (P : Order → Type 0) → AreRefused words → ForWords words P
for_none words P refused = λ order orders. absurd (refused order orders)

module _ (words : List (List ℕ)) (end : End) (status : ℕ) (files : Option (List ℕ → Option (List ℕ))) (files_old files_new sink_old sink_new net_old net_new : ℕ)
    (tells : Tells end status) (sink : status ≡ status_sink_fault → Rose sink_old sink_new) where
  -- the exit status of a run whose words were understood
  pub exit_cause : (order : Order) → ForWords words (λ other. other ≡ order) → HasCauseOf order end files files_old files_new net_old net_new →
      HasExitCause words status files files_old files_new sink_old sink_new net_old net_new
  exit_cause order only cause = record {
    known = known_status end status tells;
    usage = λ is. absurd (cause.understood (is_refused end (number_is end status 2 tells is (λ e. omega (arith, e)) (λ e. omega (arith, e)))));
    read = read;
    file_fault = file_fault;
    unfit = for_words words order (λ o. Told files o.path IsUnfit → (status ≡ status_file_fault) ⊎ GoesBefore status) only unfit;
    bad_zone = λ is. for_words words order (λ o. WhereTold files o.path HasBadLine) only (cause.bad_zone (is_bad_zone end (number_is end status 8 tells is (λ e. omega (arith, e)) (λ e. omega (arith, e)))));
    bad_line = for_words words order (λ o. Told files o.path HasBadLine → (status ≡ status_bad_zone) ⊎ ((status ≡ status_file_fault) × Rose files_old files_new) ⊎ GoesBefore status) only bad_line;
    sink_fault = sink;
    socket_fault = λ is. cause.socket_fault (is_socket_fault end (number_is end status 6 tells is (λ e. omega (arith, e)) (λ e. omega (arith, e))));
  } where
    Reads : Order → Type 0
    Reads o = (zone : List Record) × ReadsZone files o.path zone

    read : (status ≡ status_success) ⊎ (status ≡ status_socket_fault) → ForWords words Reads
    read (inl is) = for_words words order Reads only (cause.served (is_served end (number_is end status 0 tells is (λ e. omega (arith, e)) (λ e. omega (arith, e)))))
    read (inr is) = for_words words order Reads only (cause.failed (is_socket_fault end (number_is end status 6 tells is (λ e. omega (arith, e)) (λ e. omega (arith, e)))))

    file_fault : status ≡ status_file_fault → Rose files_old files_new ⊎ ForWords words (λ o. WhereTold files o.path IsUnfit)
    file_fault is = told (cause.file_fault (is_file_fault end (number_is end status 3 tells is (λ e. omega (arith, e)) (λ e. omega (arith, e))))) where
      told : Rose files_old files_new ⊎ WhereTold files order.path IsUnfit → Rose files_old files_new ⊎ ForWords words (λ o. WhereTold files o.path IsUnfit)
      told (inl rose) = inl rose
      told (inr is) = inr (for_words words order (λ o. WhereTold files o.path IsUnfit) only is)

    unfit : Told files order.path IsUnfit → (status ≡ status_file_fault) ⊎ GoesBefore status
    unfit told = so (cause.unfit told) where
      so : (end ≡ FileFault) ⊎ (end ≡ NoMemory) → (status ≡ status_file_fault) ⊎ GoesBefore status
      so (inl is) = status_of end FileFault status tells is
      so (inr is) = inr (before_of end status tells is)

    bad_line : Told files order.path HasBadLine → (status ≡ status_bad_zone) ⊎ ((status ≡ status_file_fault) × Rose files_old files_new) ⊎ GoesBefore status
    bad_line told = so (cause.bad_line told) where
      beside : Rose files_old files_new → (status ≡ status_file_fault) ⊎ GoesBefore status → (status ≡ status_bad_zone) ⊎ ((status ≡ status_file_fault) × Rose files_old files_new) ⊎ GoesBefore status
      beside rose (inl is) = inr (inl (is, rose))
      beside rose (inr before) = inr (inr before)

      first : (status ≡ status_bad_zone) ⊎ GoesBefore status → (status ≡ status_bad_zone) ⊎ ((status ≡ status_file_fault) × Rose files_old files_new) ⊎ GoesBefore status
      first (inl is) = inl is
      first (inr before) = inr (inr before)

      so : (end ≡ BadZone) ⊎ ((end ≡ FileFault) × Rose files_old files_new) ⊎ (end ≡ NoMemory) → (status ≡ status_bad_zone) ⊎ ((status ≡ status_file_fault) × Rose files_old files_new) ⊎ GoesBefore status
      so (inl is) = first (status_of end BadZone status tells is)
      so (inr (inl is)) = beside is.1 (status_of end FileFault status tells is.0)
      so (inr (inr is)) = inr (inr (before_of end status tells is))

-- the exit status of a run whose words were refused
pub exit_refused : (words : List (List ℕ)) (status : ℕ) (files : Option (List ℕ → Option (List ℕ))) (files_old files_new sink_old sink_new net_old net_new : ℕ) →
    AreRefused words → Tells Refused status → (status ≡ status_sink_fault → Rose sink_old sink_new) →
    HasExitCause words status files files_old files_new sink_old sink_new net_old net_new
exit_refused words status files files_old files_new sink_old sink_new net_old net_new refused tells sink = record {
  known = known_status Refused status tells;
  usage = λ is. refused;
  read = λ is. for_none words (λ o. (zone : List Record) × ReadsZone files o.path zone) refused;
  file_fault = λ is. absurd (omega (arith, number_is Refused status 3 tells is (λ e. omega (arith, e)) (λ e. omega (arith, e))));
  unfit = for_none words (λ o. Told files o.path IsUnfit → (status ≡ status_file_fault) ⊎ GoesBefore status) refused;
  bad_zone = λ is. for_none words (λ o. WhereTold files o.path HasBadLine) refused;
  bad_line = for_none words (λ o. Told files o.path HasBadLine → (status ≡ status_bad_zone) ⊎ ((status ≡ status_file_fault) × Rose files_old files_new) ⊎ GoesBefore status) refused;
  sink_fault = sink;
  socket_fault = λ is. absurd (omega (arith, number_is Refused status 6 tells is (λ e. omega (arith, e)) (λ e. omega (arith, e))));
}

-- no end is that of an output that failed
not_sink : (end : End) → number_of end ≡ status_sink_fault → ⊥
not_sink Served is = omega (arith, is)
not_sink Refused is = omega (arith, is)
not_sink FileFault is = omega (arith, is)
not_sink NoMemory is = omega (arith, is)
not_sink SocketFault is = omega (arith, is)
not_sink BadZone is = omega (arith, is)

-- the status of its end has its cause in a run whose words were understood
pub end_cause : (words : List (List ℕ)) (end : End) (files : Option (List ℕ → Option (List ℕ))) (files_old files_new sink_old sink_new net_old net_new : ℕ) (order : Order) →
    ForWords words (λ other. other ≡ order) → HasCauseOf order end files files_old files_new net_old net_new →
    HasExitCause words (number_of end) files files_old files_new sink_old sink_new net_old net_new
end_cause words end files files_old files_new sink_old sink_new net_old net_new order only cause =
    exit_cause words end (number_of end) files files_old files_new sink_old sink_new net_old net_new (inl refl) (λ is. absurd (not_sink end is)) order only cause

-- status 2 has its cause in a run whose words were refused
pub end_refused : (words : List (List ℕ)) (files : Option (List ℕ → Option (List ℕ))) (files_old files_new sink_old sink_new net_old net_new : ℕ) →
    AreRefused words → HasExitCause words status_usage files files_old files_new sink_old sink_new net_old net_new
end_refused words files files_old files_new sink_old sink_new net_old net_new refused =
    exit_refused words status_usage files files_old files_new sink_old sink_new net_old net_new refused (inl refl) (λ is. absurd (not_sink Refused is))

-- ---- calls

module _ (files : Option (List ℕ → Option (List ℕ))) (order : Order) where
  -- a run without a zone calls nothing
  pub service_none : (end : End) (old new : ℕ) → Opens files order.path old new (Err end) → IsServiceOf files order (number_of end) []
  service_none end old new opens = record {
    zone = [];
    reads = λ some. absurd (some refl);
    listens = WasSent;
    exchanges = [];
    part = (_, refl);
    few = omega arith;
    ends = inl tt;
    whole = λ is. absurd (unserved end (is_served end is) opens);
    fault = λ is. absurd (unfailed end (is_socket_fault end is) opens);
    unserved = λ is. refl;
  } where
    unserved : (e : End) → e ≡ Served → Opens files order.path old new (Err e) → ⊥
    unserved e is o = rw is at o

    unfailed : (e : End) → e ≡ SocketFault → Opens files order.path old new (Err e) → ⊥
    unfailed e is o = rw is at o

  -- the status that goes before leaves the calls
  pub service_told : (end : End) (status : ℕ) (calls : List ListenerCall) → Tells end status → IsServiceOf files order (number_of end) calls → IsServiceOf files order status calls
  service_told end status calls tells service = record {
    zone = service.zone;
    reads = service.reads;
    listens = service.listens;
    exchanges = service.exchanges;
    part = service.part;
    few = service.few;
    ends = service.ends;
    whole = λ is. service.whole (number_is end status 0 tells is (λ e. omega (arith, e)) (λ e. omega (arith, e)));
    fault = λ is. service.fault (number_is end status 6 tells is (λ e. omega (arith, e)) (λ e. omega (arith, e)));
    unserved = λ is. service.unserved (without_zone is);
  } where
    without_zone : (status ≡ status_file_fault) ⊎ (status ≡ status_bad_zone) → (number_of end ≡ status_file_fault) ⊎ (number_of end ≡ status_bad_zone)
    without_zone (inl is) = inl (number_is end status 3 tells is (λ e. omega (arith, e)) (λ e. omega (arith, e)))
    without_zone (inr is) = inr (number_is end status 8 tells is (λ e. omega (arith, e)) (λ e. omega (arith, e)))

-- a run with its order goes on as its order says
pub service_said : (words : List (List ℕ)) (order : Order) (files : Option (List ℕ → Option (List ℕ))) (end : End) (status : ℕ) (old new : Option (List ListenerCall)) →
    ForWords words (λ other. other ≡ order) → Tells end status → GoesOnWith (IsServiceOf files order (number_of end)) old new →
    ForWords words (λ o. GoesOnWith (IsServiceOf files o status) old new)
service_said words order files end status old new only tells service =
    for_words words order (λ o. GoesOnWith (IsServiceOf files o status) old new) only
    (logs_as (IsServiceOf files order (number_of end)) (IsServiceOf files order status) old new (λ calls. service_told files order end status calls tells) service)

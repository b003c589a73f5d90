-- What a message says of cookies, by what its OPT records say.
use Rattle.std.proofs.Common.{◌≡◌, ℕ, ◌+◌, ◌*◌, ◌%◌, Bool, true, false, cond, List, [], ◌∷◌, filter, Option, Some, None, Result, Ok, Err, refl, sym, ap, ◌∙◌}
use Rattle.std.specs.Prelude.{find}
use Rattle.std.specs.Result.{result_map_both}
use Rattle.dns_message.specs.declared.message.Message.{Message}
use Rattle.dns_message.specs.declared.message.Record.{Record}
use Rattle.edns_opt.specs.Opt.{is_opt}
use Rattle.edns_opt.specs.Reading.{opt_of, opt_with, options_of, said_once}
use Rattle.edns_opt.specs.declared.fault.EdnsFault.{EdnsFault}
use Rattle.edns_opt.specs.declared.opt.EdnsItem.{EdnsItem}
use Rattle.edns_opt.specs.declared.opt.Opt.{Opt}
use Rattle.message_walk.specs.Sections.{opt_seen, opt_told}
use Rattle.message_walk.specs.declared.sections.OptSeen.TheVariants.{Absent, Extends, Unread}
use Rattle.dns_cookie.specs.Reply.{cookie_by, cookie_in, cookie_of, first_cookie, reply_by, reply_of}

-- ---- what was told of the OPT record

none_told : (read : Result (Option Opt) EdnsFault) → Absent ≡ opt_told read → read ≡ Ok None
none_told (Ok None) e = refl
none_told (Ok (Some opt)) e = absurd cc
none_told (Err fault) e = absurd cc

unread_told : (m : Message) (read : Result (Option Opt) EdnsFault) → Unread ≡ opt_told read → reply_by m read ≡ None
unread_told m (Ok None) e = absurd cc
unread_told m (Ok (Some opt)) e = absurd cc
unread_told m (Err fault) e = refl

some_told : (code : ℕ) (read : Result (Option Opt) EdnsFault) → Extends code ≡ opt_told read → (opt : Opt) × (read ≡ Ok (Some opt)) × (opt.ext_rcode ≡ code)
some_told code (Ok None) e = absurd cc
some_told code (Ok (Some opt)) e = (opt, refl, cc)
some_told code (Err fault) e = absurd cc

-- ---- the one OPT record

once_said : (rrs : List Record) (opt : Opt) → said_once rrs ≡ Ok (Some opt) → (rr : Record) × (rrs ≡ rr ∷ []) × (options_of rr.rdata ≡ Ok opt.options)
once_said [] opt e = absurd cc
once_said (rr ∷ []) opt e = by_read (options_of rr.rdata) refl e where
  by_read : (read : Result (List EdnsItem) EdnsFault) → options_of rr.rdata ≡ read
      → result_map_both Some (λ (fault : EdnsFault). fault) (result_map_both (opt_with rr.class rr.ttl) (λ (fault : EdnsFault). fault) read) ≡ Ok (Some opt)
      → (one : Record) × (◌≡◌ {A = List Record} (rr ∷ []) (one ∷ [])) × (options_of one.rdata ≡ Ok opt.options)
  by_read (Ok items) is same =
      let said : opt_with rr.class rr.ttl items ≡ opt = cc in
      (rr, refl, is ∙ ap (λ (o : Opt). Ok o.options) said)
  by_read (Err fault) is same = absurd cc
once_said (rr ∷ other ∷ rest) opt e = absurd cc

-- the only one that is kept is the first that is found
first_kept : (rrs : List Record) (rr : Record) → filter is_opt rrs ≡ rr ∷ [] → find is_opt rrs ≡ Some rr
first_kept [] rr e = absurd cc
first_kept (x ∷ rrs) rr e = by_test (is_opt x) e (first_kept rrs rr) where
  by_test : (t : Bool) → cond t (x ∷ filter is_opt rrs) (filter is_opt rrs) ≡ rr ∷ [] → (filter is_opt rrs ≡ rr ∷ [] → find is_opt rrs ≡ Some rr) → cond t (Some x) (find is_opt rrs) ≡ Some rr
  by_test true same others = let is : x ≡ rr = cc in ap (λ (one : Record). Some one) is
  by_test false same others = others same

-- ---- what the message says

module _ (m : Message) where
  -- without an OPT record it has no cookie
  pub reply_plain : Absent ≡ opt_seen m.additionals → reply_of m ≡ Some (record { id = m.id; rcode = m.flags % 16; cookie = None })
  reply_plain e = ap (reply_by m) (none_told (opt_of m) e)

  pub reply_unread : Unread ≡ opt_seen m.additionals → reply_of m ≡ None
  reply_unread e = unread_told m (opt_of m) e

  reply_some : (code : ℕ) (opt : Opt) → opt_of m ≡ Ok (Some opt) → opt.ext_rcode ≡ code → reply_of m ≡ Some (record { id = m.id; rcode = code * 16 + m.flags % 16; cookie = cookie_in m })
  reply_some code opt is same =
      ap (reply_by m) is
      ∙ ap (λ (c : ℕ). Some (record { id = m.id; rcode = c * 16 + m.flags % 16; cookie = cookie_of (Some opt) })) same
      ∙ ap (λ (cookie : Option (List ℕ)). Some (record { id = m.id; rcode = code * 16 + m.flags % 16; cookie = cookie })) (sym (ap cookie_by is))

  module _ (code : ℕ) (e : Extends code ≡ opt_seen m.additionals) where
    pub reply_extends : reply_of m ≡ Some (record { id = m.id; rcode = code * 16 + m.flags % 16; cookie = cookie_in m })
    reply_extends = let told = some_told code (opt_of m) e in reply_some code told.0 told.1 told.2

    -- its cookie is that of the first OPT record
    pub cookie_found : (rr : Record) × (items : List EdnsItem) × (find is_opt m.additionals ≡ Some rr) × (options_of rr.rdata ≡ Ok items) × (cookie_in m ≡ first_cookie items)
    cookie_found =
        let told = some_told code (opt_of m) e in
        let said = once_said (filter is_opt m.additionals) told.0 told.1 in
        (said.0, told.0.options, first_kept m.additionals said.0 said.1, said.2, ap cookie_by told.1)

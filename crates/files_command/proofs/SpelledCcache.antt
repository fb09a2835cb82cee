-- The credential cache that is written is one of the grammar, with this credential alone.
use Rattle.std.proofs.Common.{◌≡◌, ℕ, ◌≤◌, ◌<◌, ◌^◌, true, List, [], ◌∷◌, ◌++◌, length, Some, Result, Ok, Err, IfOk, OnOk, nat_le, refl, sym, ap, subst, ◌∙◌, arith, append-nil, append_assoc, length-append}
use Rattle.gss_base.specs.Name.{Name}
use Rattle.krb_files.specs.Granted.{Granted, Kept}
use Rattle.krb_files.specs.declared.pieces.Next.TheVariants.{Item}
use Rattle.krb_files.specs.Ccache.{kept_of, ccache_of}
use Rattle.krb_files.specs.Grammar.{Counted}
use Rattle.krb_files.specs.CcacheGrammar.{CacheName, TypedList, EndField, TicketField, Credential, SpellsCcache}
use Rattle.krb_files.proofs.CcacheLaws.{ccache_only}
use Rattle.files_command.specs.declared.ccache_file.Times.{Times}
use Rattle.files_command.specs.Fields.{number, counted, principal, key_field, IsTextName}
use Rattle.files_command.specs.CcacheFile.{cache_of, cache_name, times_octets, ticket_octets, credential_octets, ccache_file, IsWritable}
use Rattle.files_command.proofs.Spelled.{number_length, number_spelled, counted_spelled, gives_spelled, principal_spelled, key_spelled}

name_spelled : (name : Name) → IsTextName name → CacheName name (cache_name name)
unfolding cache_name
name_spelled name text = record {
  value = 1;
  front = number 4 1;
  back = principal 4 name;
  begins = number_spelled 4 1 (omega arith);
  goes_on = principal_spelled 4 name (omega arith) text;
  same = refl;
}

-- one octet and the flags stand behind the times, and no renewal before them
abbrev no_flags : List ℕ
no_flags = number 4 0 ++ (number 1 0 ++ number 4 0)

no_flags_length : length no_flags ≡ 9
no_flags_length =
    let c = number_length 4 0 in
    let d = number_length 1 0 in
    let e = length-append (number 1 0) (number 4 0) in
    let f = length-append (number 4 0) (number 1 0 ++ number 4 0) in
    omega arith

end_spelled : (times : Times) → times.endtime < 2 ^ 32 → EndField times.endtime (times_octets times)
unfolding times_octets
end_spelled times small = record {
  value = tt;
  front = number 4 times.authtime ++ number 4 times.authtime;
  back = number 4 times.endtime ++ no_flags;
  begins = record { sized = let a = number_length 4 times.authtime in let b = length-append (number 4 times.authtime) (number 4 times.authtime) in omega arith };
  goes_on = record {
    value = times.endtime;
    front = number 4 times.endtime;
    back = no_flags;
    begins = number_spelled 4 times.endtime (omega (arith, small));
    goes_on = record { value = tt; front = no_flags; back = []; begins = record { sized = no_flags_length }; goes_on = record { value = refl; none = refl }; same = sym (append-nil no_flags) };
    same = refl;
  };
  same = sym (append_assoc (number 4 times.authtime) (number 4 times.authtime) (number 4 times.endtime ++ no_flags));
}

none_spelled : TypedList tt (number 4 0)
none_spelled = record {
  value = 0;
  front = number 4 0;
  back = [];
  begins = number_spelled 4 0 (omega arith);
  goes_on = record { value = refl; none = refl };
  same = sym (append-nil (number 4 0));
}

-- what stands behind the times and the flags
abbrev rest_octets : List ℕ → List ℕ
rest_octets ticket = number 4 0 ++ (number 4 0 ++ (counted 4 ticket ++ counted 4 []))

ticket_spelled : (ticket : List ℕ) → length ticket ≤ 60000 → TicketField ticket (rest_octets ticket)
ticket_spelled ticket short = record {
  value = tt;
  front = number 4 0;
  back = number 4 0 ++ (counted 4 ticket ++ counted 4 []);
  begins = none_spelled;
  goes_on = record {
    value = tt;
    front = number 4 0;
    back = counted 4 ticket ++ counted 4 [];
    begins = none_spelled;
    goes_on = record {
      value = ticket;
      front = counted 4 ticket;
      back = counted 4 [];
      begins = counted_spelled 4 ticket (omega (arith, short));
      goes_on = gives_spelled (Counted 4) [] ticket (counted 4 []) (counted_spelled 4 [] (omega arith));
      same = refl;
    };
    same = refl;
  };
  same = refl;
}

abbrev kept : Times → Granted → Kept
kept times granted = record { granted = granted; ends = times.endtime }

kept_is : (times : Times) (granted : Granted) → length granted.ticket ≤ 60000 → kept_of granted.client granted.server (Some granted.session) times.endtime granted.ticket ≡ Item (kept times granted)
kept_is times granted short =
    let test : nat_le (length granted.ticket) 60000 ≡ true = grind arith in
    rw test refl

credential_spelled : (times : Times) (granted : Granted) → times.endtime < 2 ^ 32 → IsWritable granted → Credential (Item (kept times granted)) (credential_octets times granted)
unfolding credential_octets ticket_octets
credential_spelled times granted small is = record {
  value = granted.client;
  front = cache_name granted.client;
  back = cache_name granted.server ++ (key_field 4 granted.session ++ ticket_octets times granted.ticket);
  begins = name_spelled granted.client is.client;
  goes_on = record {
    value = granted.server;
    front = cache_name granted.server;
    back = key_field 4 granted.session ++ ticket_octets times granted.ticket;
    begins = name_spelled granted.server is.server;
    goes_on = record {
      value = Some granted.session;
      front = key_field 4 granted.session;
      back = ticket_octets times granted.ticket;
      begins = key_spelled 4 granted.session (omega arith) is.session;
      goes_on = record {
        value = times.endtime;
        front = times_octets times;
        back = rest_octets granted.ticket;
        begins = end_spelled times small;
        goes_on = record {
          value = granted.ticket;
          front = rest_octets granted.ticket;
          back = [];
          begins = ticket_spelled granted.ticket is.ticket;
          goes_on = record { value = sym (kept_is times granted is.ticket); none = refl };
          same = sym (append-nil (rest_octets granted.ticket));
        };
        same = refl;
      };
      same = refl;
    };
    same = refl;
  };
  same = refl;
}

pub ccache_spelled : (times : Times) (granted : Granted) → times.endtime < 2 ^ 32 → IsWritable granted → SpellsCcache (cache_of times granted) (ccache_file times granted)
unfolding ccache_file
ccache_spelled times granted small is =
    let one = credential_octets times granted in
    record {
      body = counted 2 [] ++ (cache_name granted.client ++ one);
      spells = record {
        value = [];
        front = counted 2 [];
        back = cache_name granted.client ++ one;
        begins = counted_spelled 2 [] (omega arith);
        goes_on = record {
          value = granted.client;
          front = cache_name granted.client;
          back = one;
          begins = name_spelled granted.client is.client;
          goes_on = record {
            spells = record {
              pieces = Item (kept times granted) ∷ [];
              front = one;
              back = [];
              row = (one, [], credential_spelled times granted small is, refl, sym (append-nil one));
              ends = refl;
              same = sym (append-nil one);
              kept = refl;
            };
            owned = refl;
          };
          same = refl;
        };
        same = refl;
      };
      same = refl;
    }

pub ccache_read : (times : Times) (granted : Granted) → times.endtime < 2 ^ 32 → IsWritable granted → ccache_of (ccache_file times granted) ≡ Ok (cache_of times granted)
ccache_read times granted small is = ccache_only (ccache_file times granted) (cache_of times granted) (ccache_spelled times granted small is)

pub ccache_whole : {E : Type 0} (r : Result (List ℕ) E) (times : Times) (granted : Granted) → times.endtime < 2 ^ 32 → IfOk r (λ o. o ≡ ccache_file times granted) → OnOk r (IsWritable granted) → IfOk r (λ o. SpellsCcache (cache_of times granted) o)
ccache_whole (Ok o) times granted small written is = subst (λ (os : List ℕ). SpellsCcache (cache_of times granted) os) (sym written) (ccache_spelled times granted small is)
ccache_whole (Err e) times granted small written is = tt

pub ccache_back : {E : Type 0} (r : Result (List ℕ) E) (times : Times) (granted : Granted) → times.endtime < 2 ^ 32 → IfOk r (λ o. o ≡ ccache_file times granted) → OnOk r (IsWritable granted) → IfOk r (λ o. ccache_of o ≡ Ok (cache_of times granted))
ccache_back (Ok o) times granted small written is = ap ccache_of written ∙ ccache_read times granted small is
ccache_back (Err e) times granted small written is = tt

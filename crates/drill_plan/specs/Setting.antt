-- What both ends of a drill begin with.
use Rattle.std.specs.Prelude.{ℕ, true, false, List, [], ◌∷◌, codes, replicate, None}
use Rattle.std.specs.declared.dyn_box.DynBox.{DynBox}
use Rattle.std.specs.declared.alloc.Global.{Global}
use Rattle.gss_base.specs.Name.{Name}
use Rattle.gss_base.specs.declared.mech.MechKind.{MechKind}
use Rattle.gss_base.specs.declared.mech.MechKind.TheVariants as kinds
use Rattle.krb_derive.specs.declared.key.Key.TheVariants.{Aes128}
use Rattle.krb_derive.specs.Key.{type_of_key}
use Rattle.krb_files.specs.declared.keytab.Entry.{Entry}
use Rattle.krb_files.specs.Granted.{Granted}
use Rattle.ap_exchange.specs.Draws.{drawn_subkey, drawn_confounder}
use Rattle.scram_mech.specs.declared.verifiers.Verifier.{Verifier}
use Rattle.scram_mech.specs.Secrets.{Secret}
use Rattle.scram_mech.specs.Verifiers.{line_with}
use Rattle.files_command.specs.declared.keytab_file.ServiceKey.{ServiceKey}
use Rattle.files_command.specs.KeytabFile.{entry_of}
use Rattle.files_command.specs.Making.{granted_with}
use Rattle.spnego_core.specs.declared.setup.AcceptSetup.{AcceptSetup}
use Rattle.gss_base.specs.declared.mech.KerberosName.TheVariants.{Standard}
use Rattle.spnego_core.specs.declared.setup.MechCred.{MechCred}
use Rattle.spnego_core.specs.declared.setup.MechCred.TheVariants as creds
use Rattle.spnego_core.specs.Ends.{PlainSetup}
use Rattle.mech_objects.specs.Meaning.{MechSays}
use Rattle.init_ends.specs.Ends.{setup_means}
use Rattle.gss_client.specs.declared.start.Start.{Start}
use Rattle.gss_client.specs.Start.{StartSays, StartMeans}
use Rattle.drill_plan.specs.Sessions.{kind_of, terms_of}
use Rattle.files_command.specs.Making.{TicketOpens}

-- the server, and who calls by Kerberos
abbrev pub server_name : Name
server_name = record { realm = codes "DRILL"; parts = codes "rpc" ∷ codes "drill" ∷ [] }

abbrev pub client_name : Name
client_name = record { realm = codes "DRILL"; parts = codes "user" ∷ [] }

-- the server's key, whose number is 1
abbrev pub server_key : ServiceKey
server_key = record {
  server = server_name;
  kvno = 1;
  key = Aes128 (0 ∷ 1 ∷ 2 ∷ 3 ∷ 4 ∷ 5 ∷ 6 ∷ 7 ∷ 8 ∷ 9 ∷ 10 ∷ 11 ∷ 12 ∷ 13 ∷ 14 ∷ 15 ∷ []);
}

-- the keytab has this key alone
abbrev pub drill_keytab : List Entry
drill_keytab = entry_of server_key ∷ []

-- the user of SCRAM
abbrev pub user_name : List ℕ
user_name = codes "drill"

-- its password, which is the same, the salt and the rounds
abbrev pub user_secret : Secret
user_secret = record { password = user_name; salt = codes "drill"; rounds = 4096 }

-- the file of verifiers has the line of this user alone
abbrev pub drill_verifiers : List Verifier
drill_verifiers = line_with user_name user_secret ∷ []

-- both mechanisms, Kerberos first
abbrev pub drill_offer : List MechKind
drill_offer = kinds.Kerberos ∷ kinds.Scram ∷ []

-- what the server begins with
abbrev pub drill_acceptor : AcceptSetup
drill_acceptor = record {
  own = server_name;
  keytab = drill_keytab;
  verifiers = drill_verifiers;
  bindings = None;
  offer = drill_offer;
  bare = false;
}

-- the octets of the ticket's session key, which are the first 16, and of its confounder, which are
-- the last 16
abbrev pub ticket_draws : List ℕ
ticket_draws = replicate 48 68

-- the client's credential by Kerberos, whose ticket serves a day
abbrev pub drill_ticket : Granted
drill_ticket = granted_with client_name server_key (drawn_subkey (type_of_key server_key.key)
    ticket_draws) 1000000 1086400 (drawn_confounder ticket_draws)

-- the client's credential of a mechanism, under its own name
abbrev pub drill_credential : MechKind → MechCred
drill_credential kinds.Kerberos = creds.Kerberos Standard drill_ticket
drill_credential kinds.Scram = creds.Scram user_name user_name

-- what the client is begun with by a mechanism, at a moment, with 66 drawn octets
abbrev pub drill_setup : MechKind → ℕ → List ℕ → PlainSetup
drill_setup kind stamp draws = record {
  list = drill_credential kind ∷ [];
  bindings = None;
  stamp = stamp;
  draws = draws;
  negotiates = true;
}

-- what the client begins a session with; its first call has the number 1
abbrev pub drill_start : ℕ → ℕ → List ℕ → StartSays
drill_start number stamp draws = record {
  setup = drill_setup (kind_of number) stamp draws;
  terms = terms_of number;
  first = 1;
}

-- what the code's start is, by what its objects are
abbrev pub started_by : {X : Type 0} → {D : X → Type 0} → (DynBox X Global D → MechSays)
    → Start X D → StartMeans
started_by says start = record {
  setup = setup_means says start.setup;
  terms = start.terms;
  first = start.first;
}

-- what a credential of a mechanism seals opens again: what the ticket seals, under the server's key
abbrev pub CredOpens : MechKind → Type 0
CredOpens kinds.Kerberos = TicketOpens client_name server_key drill_ticket.session 1000000 1086400
    (drawn_confounder ticket_draws)
CredOpens kinds.Scram = Unit {0}

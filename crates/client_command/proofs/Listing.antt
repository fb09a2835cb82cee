-- The credentials of listed names, read value by value.
use Rattle.std.proofs.Common.{◌≡◌, ◌∙◌, ℕ, ◌+◌, ◌<◌, ◌≤◌, Bool, true, false, List, [], ◌∷◌, ◌++◌, append_assoc, length, drop, get_or, map, Option, Some, None, Result, Ok, Err, refl, ap, sym, subst}
use Rattle.std.proofs.lemmas.List.{append-nil, at_drop_more, at_drop_all}
use Rattle.std.specs.Prelude.{IfOk}
use Rattle.sec_base.specs.Answers.{Gives}
use Rattle.gss_base.specs.Mech.{oid_named}
use Rattle.gss_base.specs.Name.{Name}
use Rattle.gss_base.specs.declared.mech.KerberosName.{KerberosName}
use Rattle.gss_base.specs.declared.mech.KerberosName.TheVariants.{Standard, Microsoft}
use Rattle.gss_base.specs.declared.mech.MechName.{MechName}
use Rattle.gss_base.specs.declared.mech.MechName.TheVariants as names
use Rattle.krb_files.specs.Ccache.{granted_for}
use Rattle.krb_files.specs.Granted.{Granted, Cache}
use Rattle.spnego_core.specs.Choice.{are_few}
use Rattle.spnego_core.specs.InitMech.{name_of, oid_listed, is_own_list, is_bare_list}
use Rattle.spnego_core.specs.declared.setup.MechCred.{MechCred}
use Rattle.spnego_core.specs.declared.setup.MechCred.TheVariants as creds
use Rattle.client_options.proofs.Naming.{behind}
use Rattle.client_command.specs.Credentials.{◌>>=◌, or_none, ticket_for, login_of, cred_for, listed, creds_with}
use Rattle.client_options.specs.Mechs.{is_list}
use Rattle.client_options.specs.Words.{is_kerberos_alone, is_fit}
use Rattle.client_options.specs.declared.ending.RunEnd.{RunEnd}
use Rattle.client_options.specs.declared.ending.RunEnd.TheVariants.{NoMemory}
use Rattle.client_options.specs.declared.words.Sources.{Sources}

-- ---- each credential has the name under which it is listed

abbrev Names : MechName → Result MechCred RunEnd → Type 0
Names name (Ok cred) = name_of cred ≡ name
Names name (Err end) = Unit {0}

some-names : (name : KerberosName) (found : Option Granted) → Names (names.Kerberos name) (or_none name found)
some-names name None = tt
some-names name (Some granted) = refl

ticket-names : (name : KerberosName) (cache : Option Cache) (server : Option Name) → Names (names.Kerberos name) (ticket_for name cache server)
ticket-names name (Some cache) (Some server) = some-names name (granted_for server cache.credentials)
ticket-names name (Some cache) None = tt
ticket-names name None server = tt

login-names : (user password : Option (List ℕ)) → Names names.Scram (login_of user password)
login-names (Some user) (Some password) = refl
login-names (Some user) None = tt
login-names None password = tt

cred-names : (sources : Sources) (cache : Option Cache) (password : Option (List ℕ)) (name : MechName) → Names name (cred_for sources cache password name)
cred-names sources cache password (names.Kerberos name) = ticket-names name cache sources.server
cred-names sources cache password names.Scram = login-names sources.user password

-- ---- so have those of a list

abbrev AreNamed : List MechName → Result (List MechCred) RunEnd → Type 0
AreNamed list (Ok creds) = map name_of creds ≡ list
AreNamed list (Err end) = Unit {0}

one-more : (name : MechName) (list : List MechName) (one : Result MechCred RunEnd) (rest : Result (List MechCred) RunEnd)
    → Names name one → AreNamed list rest → AreNamed (name ∷ list) (one >>= λ cred. rest >>= λ creds. Ok (cred ∷ creds))
one-more name list (Ok cred) (Ok creds) is are = ap (λ (n : MechName). n ∷ map name_of creds) is ∙ ap (λ (ns : List MechName). name ∷ ns) are
one-more name list (Ok cred) (Err end) is are = tt
one-more name list (Err end) rest is are = tt

all-named : (found : MechName → Result MechCred RunEnd) → ((name : MechName) → Names name (found name)) → (list : List MechName) → AreNamed list (listed found list)
all-named found each [] = refl
all-named found each (name ∷ list) = one-more name list (found name) (listed found list) (each name) (all-named found each list)

-- ---- and they are an initiator's

by-names : (creds : List MechCred) → map oid_named (map name_of creds) ≡ map oid_listed creds
by-names [] = refl
by-names (cred ∷ creds) = ap (λ (oids : List (List ℕ)). oid_listed cred ∷ oids) (by-names creds)

own-list : (creds : List MechCred) (list : List MechName) → map name_of creds ≡ list → is_list list ≡ true → is_own_list creds ≡ true
own-list creds list named few = ap are_few (sym (by-names creds) ∙ ap (λ (ns : List MechName). map oid_named ns) named) ∙ few

pub own-given : (result : Result (List MechCred) RunEnd) (sources : Sources) (cache : Option Cache) (password : Option (List ℕ))
    → Gives NoMemory (λ list. list) result (creds_with sources cache password) → is_list sources.mechs ≡ true → IfOk result (λ list. is_own_list list ≡ true)
own-given (Ok creds) sources cache password given few =
    own-list creds sources.mechs (subst (λ (r : Result (List MechCred) RunEnd). AreNamed sources.mechs r) given (all-named (cred_for sources cache password) (cred-names sources cache password) sources.mechs)) few
own-given (Err end) sources cache password given few = tt

-- those of Kerberos alone are one that doesn't negotiate

bare-named : (list : List MechCred) → is_kerberos_alone (map name_of list) ≡ true → is_bare_list list ≡ true
bare-named [] e = absurd (let bad : false ≡ true = e in cc)
bare-named (creds.Kerberos Standard granted ∷ []) e = refl
bare-named (creds.Kerberos Microsoft granted ∷ []) e = absurd (let bad : false ≡ true = e in cc)
bare-named (creds.Scram user password ∷ []) e = absurd (let bad : false ≡ true = e in cc)
bare-named (one ∷ other ∷ more) e = absurd (let bad : false ≡ true = e in cc)

pub bare-given : (result : Result (List MechCred) RunEnd) (sources : Sources) (cache : Option Cache) (password : Option (List ℕ))
    → Gives NoMemory (λ list. list) result (creds_with sources cache password) → is_kerberos_alone sources.mechs ≡ true → IfOk result (λ list. is_bare_list list ≡ true)
bare-given (Ok list) sources cache password given alone =
    let named : map name_of list ≡ sources.mechs = subst (λ (r : Result (List MechCred) RunEnd). AreNamed sources.mechs r) given (all-named (cred_for sources cache password) (cred-names sources cache password) sources.mechs) in
    bare-named list (ap is_kerberos_alone named ∙ alone)
bare-given (Err end) sources cache password given alone = tt

pub fit-alone : (negotiates : Bool) (list : List MechName) → is_fit negotiates list ≡ true → negotiates ≡ false → is_kerberos_alone list ≡ true
fit-alone true list fit off = absurd (let bad : true ≡ false = off in cc)
fit-alone false list fit off = fit

-- ---- a list that is read on, value by value

-- one more value stands already
creds-on : (before : List MechCred) (cred : MechCred) (rest : Result (List MechCred) RunEnd) → behind before (rest >>= λ creds. Ok (cred ∷ creds)) ≡ behind (before ++ cred ∷ []) rest
creds-on before cred (Ok list) = ap Ok (sym (append_assoc before (cred ∷ []) list))
creds-on before cred (Err end) = refl

pub next-cred : (f : MechName → Result MechCred RunEnd) (names : List MechName) (i : ℕ) (name : MechName) {cred : MechCred} (before : List MechCred) {longer : List MechCred} {whole : Result (List MechCred) RunEnd}
    → i < length names → f (get_or names i name) ≡ Ok cred → longer ≡ before ++ cred ∷ [] → behind before (listed f (drop i names)) ≡ whole → behind longer (listed f (drop (i + 1) names)) ≡ whole
next-cred f names i name {cred} before {longer} {whole} within is more so =
    let rest : Result (List MechCred) RunEnd = listed f (drop (i + 1) names) in
    rw more (
    sym (creds-on before cred rest)
    ∙ (ap (λ (r : Result MechCred RunEnd). behind before (r >>= λ one. rest >>= λ creds. Ok (one ∷ creds))) (sym is)
    ∙ (sym (at_drop_more (λ (ns : List MechName). behind before (listed f ns)) names i name within) ∙ so))
    )

pub all-creds : (f : MechName → Result MechCred RunEnd) (names : List MechName) (i : ℕ) (before : List MechCred) {whole : Result (List MechCred) RunEnd}
    → length names ≤ i → behind before (listed f (drop i names)) ≡ whole → whole ≡ Ok before
all-creds f names i before {whole} past so =
    sym so ∙ (at_drop_all (λ (ns : List MechName). behind before (listed f ns)) names i past ∙ ap Ok (append-nil before))

-- How a run ends by what its credentials came to.
use Rattle.std.proofs.Common.{◌≡◌, ◌≢◌, ◌⊎◌, inl, inr, ℕ, Bool, true, false, List, Result, Ok, Err, refl, sym, ap, subst, ◌∙◌}
use Rattle.std.specs.Prelude.{IfErr, IsOk}
use Rattle.spnego_core.specs.declared.setup.MechCred.{MechCred}
use Rattle.client_command.proofs.Asking.{asked-begun}
use Rattle.client_command.proofs.Ended.{stops-never}
use Rattle.client_command.specs.Credentials.{Finds, AsksFor, Asks, is_unloaded}
use Rattle.client_options.specs.Endings.{is_begun}
use Rattle.client_command.specs.Loading.{EndsBy}
use Rattle.client_options.specs.declared.ending.RunEnd.{RunEnd}
use Rattle.client_options.specs.declared.ending.RunEnd.TheVariants.{Usage, CannotLoad, Bad, NoCredential, NoMemory, LinkFault, PeerEnded, Refused, Negotiation, BadReply, Foreign, Spent, Finished}
use Rattle.client_options.specs.declared.words.Sources.{Sources}

-- ---- the ends of a run

-- an end of a session is none of a file that can't be loaded
begun-loaded : (end : RunEnd) → is_begun end ≡ true → is_unloaded end ≡ true → ⊥
begun-loaded Usage b u = cc
begun-loaded (CannotLoad file) b u = cc
begun-loaded (Bad file at) b u = cc
begun-loaded NoCredential b u = cc
begun-loaded NoMemory b u = cc
begun-loaded LinkFault b u = cc
begun-loaded PeerEnded b u = cc
begun-loaded (Refused denial) b u = cc
begun-loaded (Negotiation refusal) b u = cc
begun-loaded (BadReply why) b u = cc
begun-loaded Foreign b u = cc
begun-loaded Spent b u = cc
begun-loaded Finished b u = cc

-- with credentials no file is said to be missing
pub loaded : {end : RunEnd} {P : Type 0} → (end ≢ NoMemory → is_begun end ≡ true) → is_unloaded end ≡ true → P
loaded {end} begun u =
    let other : end ≢ NoMemory = (λ e. let bad : false ≡ true = sym (ap is_unloaded e) ∙ u in cc) in
    absurd (begun-loaded end (begun other) u)

-- ---- with credentials, or without

pub other-by : (creds : Result (List MechCred) RunEnd) (end : RunEnd) → IfErr creds (λ stop. stop ≢ Usage) → EndsBy creds end → end ≢ Usage
other-by (Ok list) end other by = λ e.
    let yes : is_begun end ≡ true = by (λ m. let bad : Usage ≡ NoMemory = sym e ∙ m in cc) in
    let bad : true ≡ false = sym yes ∙ ap is_begun e in cc
other-by (Err stop) end other by = λ e. other (sym by ∙ e)

pub fault-by : {P : Type 0} (creds : Result (List MechCred) RunEnd) (end : RunEnd) → IfErr creds (λ stop. is_unloaded stop ≡ true → P) → creds ≡ Err end → is_unloaded end ≡ true → P
fault-by {P} creds end told is = subst (λ (r : Result (List MechCred) RunEnd). IfErr r (λ stop. is_unloaded stop ≡ true → P)) is told

pub asked-by : (old new : List (List ℕ)) (sources : Sources) (creds : Result (List MechCred) RunEnd) (end : RunEnd) → AsksFor old new sources creds → EndsBy creds end → Asks old new sources end
asked-by old new sources (Ok list) end asks by = asked-begun old new sources end asks by
asked-by old new sources (Err stop) end asks by = subst (λ (e : RunEnd). Asks old new sources e) (sym by) asks

pub stops-by : (due creds : Result (List MechCred) RunEnd) (end : RunEnd) → Finds due creds → EndsBy creds end → is_begun end ≡ false → is_unloaded end ≡ false → end ≢ NoMemory → due ≡ Err end
stops-by due (Ok list) end finds by stopped here other = let bad : true ≡ false = sym (by other) ∙ stopped in cc
stops-by due (Err stop) end finds by stopped here other = finds (sym (ap is_unloaded by) ∙ here) (λ e. other (by ∙ e)) ∙ ap Err (sym by)

-- a session is held with credentials
pub held-by : (creds : Result (List MechCred) RunEnd) (end : RunEnd) → IfErr creds (λ stop. is_begun stop ≡ false) → EndsBy creds end → is_begun end ≡ true → (list : List MechCred) × (creds ≡ Ok list)
held-by (Ok list) end unbegun by begun = (list, refl)
held-by (Err stop) end unbegun by begun = let bad : true ≡ false = sym begun ∙ (ap is_begun by ∙ unbegun) in cc

-- the credentials are those that are due
pub due-of : (due creds : Result (List MechCred) RunEnd) (list : List MechCred) → Finds due creds → creds ≡ Ok list → due ≡ Ok list
due-of due creds list finds is = subst (λ (r : Result (List MechCred) RunEnd). Finds due r) is finds

pub found-of : (due : Result (List MechCred) RunEnd) (list : List MechCred) → due ≡ Ok list → IsOk due
found-of due list is = subst (λ (r : Result (List MechCred) RunEnd). IsOk r) (sym is) refl

-- those that are due are found, unless a count rose or memory was wanting
pub found-by : {P : Type 0} (due creds : Result (List MechCred) RunEnd) (end : RunEnd) (list : List MechCred)
    → Finds due creds → due ≡ Ok list → IfErr creds (λ stop. is_unloaded stop ≡ true → P) → (P → ⊥) → EndsBy creds end → end ≢ NoMemory → creds ≡ Ok list
found-by due (Ok other) end list finds is told steady by more = sym finds ∙ is
found-by due (Err stop) end list finds is told steady by more = absurd (stops-never finds is (λ u. steady (told u)) (λ e. more (by ∙ e)))

pub silent-by : {P : Type 0} (creds : Result (List MechCred) RunEnd) (end : RunEnd) → IfErr creds (λ stop. P) → EndsBy creds end → is_begun end ≡ false → end ≢ NoMemory → P
silent-by (Ok list) end silent by stopped other = let bad : true ≡ false = sym (by other) ∙ stopped in cc
silent-by (Err stop) end silent by stopped other = silent

pub silent-or : {P Q : Type 0} (creds : Result (List MechCred) RunEnd) → IfErr creds (λ stop. P) → ((list : List MechCred) → creds ≡ Ok list → Q) → P ⊎ Q
silent-or (Ok list) silent held = inr (held list refl)
silent-or (Err stop) silent held = inl silent

-- ---- by what is said of a run's end

stops : {P : Type 0} (due : Result (List MechCred) RunEnd) (end : RunEnd) → (is_unloaded end ≡ true → P) → (P → ⊥)
    → (is_begun end ≡ false → is_unloaded end ≡ false → end ≢ NoMemory → due ≡ Err end) → is_begun end ≡ false → end ≢ NoMemory → due ≡ Err end
stops due end told steady stop stopped other = go (is_unloaded end) refl
  where
    go : (missing : Bool) → is_unloaded end ≡ missing → due ≡ Err end
    go true e = absurd (steady (told e))
    go false e = stop stopped e other

pub stops-always : {P : Type 0} (due : Result (List MechCred) RunEnd) (end stop : RunEnd) → (is_begun end ≡ true → IsOk due) → (is_unloaded end ≡ true → P) → (P → ⊥)
    → (is_begun end ≡ false → is_unloaded end ≡ false → end ≢ NoMemory → due ≡ Err end) → due ≡ Err stop → end ≢ NoMemory → end ≡ stop
stops-always due end stop found told steady stopping is other = go (is_begun end) refl
  where
    go : (begun : Bool) → is_begun end ≡ begun → end ≡ stop
    go true e = let bad : false ≡ true = subst (λ (r : Result (List MechCred) RunEnd). IsOk r) is (found e) in cc
    go false e = let same : ◌≡◌ {A = Result (List MechCred) RunEnd} (Err end) (Err stop) = sym (stops due end told steady stopping e other) ∙ is in cc

pub begun-always : {P : Type 0} (due : Result (List MechCred) RunEnd) (end : RunEnd) (list : List MechCred) → (is_unloaded end ≡ true → P) → (P → ⊥)
    → (is_begun end ≡ false → is_unloaded end ≡ false → end ≢ NoMemory → due ≡ Err end) → due ≡ Ok list → end ≢ NoMemory → is_begun end ≡ true
begun-always due end list told steady stopping is other = go (is_begun end) refl
  where
    go : (begun : Bool) → is_begun end ≡ begun → is_begun end ≡ true
    go true e = e
    go false e = let bad : ◌≡◌ {A = Result (List MechCred) RunEnd} (Err end) (Ok list) = sym (stops due end told steady stopping e other) ∙ is in cc

-- an end without a session is none of a link
pub unlinked : {end stop : RunEnd} {P : Type 0} → is_begun stop ≡ false → end ≡ stop → end ≡ LinkFault → P
unlinked unbegun same e = let bad : true ≡ false = ap is_begun (sym e ∙ same) ∙ unbegun in cc

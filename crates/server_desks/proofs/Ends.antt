-- How a run ends, by the ends of its desks.
use Rattle.std.proofs.Common.{arith, ◌≡◌, ◌≢◌, true, ◌<◌, ◌≤◌, ℕ, suc, ◌+◌, List, [], ◌∷◌, length, slice_get, Some, refl, sym, ◌∙◌}
use Rattle.server_desks.specs.Desks.{joined, end_behind, NamesADesk}
use Rattle.server_options.specs.Lines.{is_begun}
use Rattle.server_desks.specs.declared.desk.DeskEnd.{DeskEnd}
use Rattle.server_desks.specs.declared.desk.DeskEnd.TheVariants as ends
use Rattle.server_options.specs.declared.ending.RunEnd.{RunEnd}
use Rattle.server_options.specs.declared.ending.RunEnd.TheVariants.{Usage, CannotLoad, Bad, NoKey, PortFault, NoMemory, Served}

begun-more : (end : RunEnd) (ran : DeskEnd) (number : ℕ) → (end ≢ NoMemory → is_begun end ≡ true) → joined end number ran ≢ NoMemory → is_begun (joined end number ran) ≡ true
begun-more (PortFault first) ran number begun other = refl
begun-more NoMemory ran number begun other = begun other
begun-more Usage ran number begun other = begun other
begun-more (CannotLoad file) ran number begun other = begun other
begun-more (Bad file at) ran number begun other = begun other
begun-more NoKey ran number begun other = begun other
begun-more Served ends.Done number begun other = refl
begun-more Served ends.PortFault number begun other = refl
begun-more Served ends.NoMemory number begun other = absurd (other refl)

pub begun-behind : (end : RunEnd) (number : ℕ) (done : List DeskEnd) → (end ≢ NoMemory → is_begun end ≡ true) → end_behind end number done ≢ NoMemory → is_begun (end_behind end number done) ≡ true
begun-behind end number [] begun = begun
begun-behind end number (e ∷ done) begun = begun-behind (joined end number e) (number + 1) done (begun-more end e number begun)

-- a run that failed has its first fault's end
behind-fault : (desk number : ℕ) (done : List DeskEnd) → end_behind (PortFault desk) number done ≡ PortFault desk
behind-fault desk number [] = refl
behind-fault desk number (e ∷ done) = behind-fault desk (number + 1) done

behind-want : (number : ℕ) (done : List DeskEnd) → end_behind NoMemory number done ≡ NoMemory
behind-want number [] = refl
behind-want number (e ∷ done) = behind-want (number + 1) done

named-behind : (number desk : ℕ) (done : List DeskEnd) → end_behind Served number done ≡ PortFault desk → (number ≤ desk) × (desk < number + length done)
named-behind number desk [] e = (cc, cc)
named-behind number desk (ends.Done ∷ done) e = let both = named-behind (number + 1) desk done e in (omega (arith, both.0), omega (arith, both.1))
named-behind number desk (ends.PortFault ∷ done) e = let same : number ≡ desk = (let f : PortFault number ≡ PortFault desk = sym (behind-fault number (number + 1) done) ∙ e in cc) in (omega arith, omega arith)
named-behind number desk (ends.NoMemory ∷ done) e = (let f : NoMemory ≡ PortFault desk = sym (behind-want (number + 1) done) ∙ e in cc, let f : NoMemory ≡ PortFault desk = sym (behind-want (number + 1) done) ∙ e in cc)

-- a run of so many desks names one of them
pub names-one : (end : RunEnd) (count : ℕ) (done : List DeskEnd) → length done ≡ count → end ≡ end_behind Served 1 done → NamesADesk end count
names-one end count done many is = λ desk e. let both = named-behind 1 desk done (sym is ∙ e) in (omega (arith, both.0), omega (arith, both.1, many))

-- no desk's port failed, and none wanted memory
pub all-done : (number : ℕ) (done : List DeskEnd) → ((i : ℕ) → slice_get done i ≡ Some ends.PortFault → ⊥) → end_behind Served number done ≢ NoMemory → end_behind Served number done ≡ Served
all-done number [] steady other = refl
all-done number (ends.Done ∷ done) steady other = all-done (number + 1) done (λ i. steady (suc i)) other
all-done number (ends.PortFault ∷ done) steady other = absurd (steady 0 refl)
all-done number (ends.NoMemory ∷ done) steady other = absurd (other (behind-want (number + 1) done))

-- How many contexts live, and how many of them negotiate: a law over all legal histories.
use Rattle.std.specs.Prelude.{ℕ, ◌≤◌, Bool, true, false, List, [], ◌∷◌, ◌++◌, length, None}
use Rattle.use_order.specs.Orders.{without}
use Rattle.accept_core.specs.declared.entry.Entry.{Entry}
use Rattle.accept_core.specs.declared.entry.Entry.TheVariants.{Opened, Auth, Went, Settled, Call}
use Rattle.accept_core.specs.declared.entry.Entry.TheVariants.{Ended}
use Rattle.accept_core.specs.History.{Standing, Unknown, Open, Whole, Over, living}
use Rattle.accept_core.specs.Legal.{Legal}
use Rattle.accept_core.specs.Aging.{in_use, most_whole}
use Rattle.history_laws.specs.Before.{OpenBy}

-- the contexts that negotiate, the one that was opened first before the others
abbrev pub opening : List Entry → List ℕ
opening [] = []
opening (Opened i at ∷ h) = opening h ++ i ∷ []
opening (Auth i mark at ∷ h) = opening h
opening (Went i at ∷ h) = opening h
opening (Settled i mech names ends at ∷ h) = without i (opening h)
opening (Call i seq procedure args ∷ h) = opening h
opening (Ended i cause ∷ h) = without i (opening h)

-- opened, neither settled nor ended
abbrev pub is_open : Standing → Bool
is_open Unknown = false
is_open (Open at) = true
is_open (Whole mech names ends) = false
is_open Over = false

-- as many contexts live as may, complete ones have no more than their share, and none negotiates:
-- then one may live at most
abbrev pub FullOfOne : Type 0
FullOfOne =
    (width : ℕ) (h : List Entry) (limit : ℕ) → Legal width h
    → length (in_use h) ≤ most_whole limit → limit ≤ living h → OpenBy h None → limit ≤ 1

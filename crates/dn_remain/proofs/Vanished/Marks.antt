-- Where a command comes from, its maker had the rows that the one who has it has. So the marks of two nodes
-- agree.
use Rattle.std.proofs.Common.{◌≡◌, ℕ, ◌<◌, ◌≤◌, sym, ◌∙◌, arith, inl, inr, List, ◌+◌, refl, ap, subst, [], ◌∷◌, false}
use Rattle.std.proofs.{Common.Some, lemmas.Bool.{lt-leb, both_ways, cases_eq, cases_Bool}}
use Rattle.dn_machine.specs.{Running.is_over, Node.put}
use Rattle.dn_machine.proofs.Put.{put_at, put_off}
use Rattle.dn_remain.specs.Vanished.Steps.{Act, Make, Take, Learn, Run, GiveUp, Leave, Decide, Acts, Step, IsRun}
use Rattle.dn_remain.specs.Vanished.{Steps.HandsOn, Node.{Node, ran, Was, fresh, HasHeard, decided_end, decided}}
use Rattle.dn_remain.specs.Vanished.Promise.{lacks_at, Marked}
use Rattle.dn_remain.proofs.Vanished.{Invariant.{IsDecision, IsKept, IsGrown}, Views.outside, Always.{always, agree}}
use Rattle.dn_remain.proofs.Vanished.{Stepping.{cases_Option, was_other, each_was}, Behind.{behind, handed_behind}}
use Rattle.dn_remain.proofs.Vanished.{Windows.{IsRoomy, roomy}, Deciding.{got_in, got_out, reached, not_q}}

-- Two nodes ran the same rows, where one has not given up the other, and that other had decided nothing without it.

module _ (players : ℕ) (history : List (ℕ → Node)) (kept : IsKept players history) (x p : ℕ) (u v : Node)
    (l : x < players) (m : p < players) (n : (x ≡ p → ⊥)) (w : Was history x u) (y : Was history p v)
    (g : u.gone p ≡ false)
    (free : (d : Node) → IsDecision players history p d → d.got p ≤ v.got p → d.gone x ≡ false) where
  -- an end that one knows is not below what the other has
  below_u : (r e : ℕ) → u.ends r ≡ Some e → v.got r ≤ e
  below_u r e s = elim ((kept.sound x u w).source r e s) [
    | inl k ↦ grind arith
    | inr d ↦
        let o : d.0.gone p ≡ false = outside d.0.gone u.gone p d.4 g in
        let t = d.1.sees p m o in
        let a : t.0.got r ≤ d.0.got r = t.3 r d.2 in
        let b : d.0.got r ≡ e = d.3 in
        elim (kept.pairs p v t.0 y t.1) [
          | inl order ↦ let c : v.got r ≤ t.0.got r = order.got r in omega arith
          | inr order ↦ elim t.2 [
            | inr gone ↦ grind arith
            | inl same ↦ elim (order.frozen r (same r ∙ d.2)) [
              | inl c ↦ omega arith
              | inr k ↦
                  let c : k.0.got r ≤ d.0.got r = kept.met x p d.0 k.0 l m n d.1.was k.1.was o (free k.0 k.1 k.5) r
                  (d.0.got r) (d.1.known r d.2) in
                  let f : k.0.got r ≡ v.got r = k.4 in
                  omega arith
            ]
          ]
        ]
  ]

  below_v : (r e : ℕ) → v.ends r ≡ Some e → u.got r ≤ e
  below_v r e s = elim ((kept.sound p v y).source r e s) [
    | inl k ↦ grind arith
    | inr d ↦
        let c : u.got r ≤ d.0.got r = kept.met p x d.0 u m l (λ i. n (sym i)) d.1.was w (free d.0 d.1 d.5) g r
        (d.0.got r) (d.1.known r d.2) in
        let b : d.0.got r ≡ e = d.3 in
        omega arith
  ]

  over_same : (r tic : ℕ) → r < players → tic < ran u → tic < ran v → is_over (u.ends r) tic ≡ is_over (v.ends r) tic
  over_same r tic i j k = elim (cases_Option (u.ends r)) [
    | inl s ↦ grind (arith, cases_Option, below_v, lt-leb)
    | inr s ↦ grind (arith, below_u, cases_Option, lt-leb, below_v)
  ]

  rows_alike : (r tic : ℕ) → r < players → tic < ran u → tic < ran v → lacks_at u tic r ≡ lacks_at v tic r
  rows_alike r tic i j k = grind (arith, over_same)

-- two nodes have the same in a row that both ran
pub record IsSameRow (u maker : Node) (back r : ℕ) : Type 0 where
  pub ran_it : back < ran u
  pub made_it : back < ran maker
  pub same : lacks_at u back r ≡ lacks_at maker back r

pub record IsMarked (players : ℕ) (history : List (ℕ → Node)) : Type 0 where
  pub marked : (x p tic back r : ℕ) (u maker : Node) → x < players → p < players → r < players
      → (x ≡ p → ⊥) → Was history x u → Was history p maker → maker.got p ≡ tic → tic < u.got p
      → back + 12 ≤ tic → IsSameRow u maker back r

row_grown : (u v maker : Node) (back r : ℕ) → IsGrown u v → IsSameRow u maker back r → IsSameRow v maker back r
row_grown u v maker back r g h = grind arith

module _ (players ahead : ℕ) (nodes : ℕ → Node) (older : List (ℕ → Node)) (q : ℕ) (l : q < players)
    (here : (nodes q).left ≡ false) (kept : IsKept players (nodes ∷ older))
    (low : ahead + ahead ≤ 12) (room : IsRoomy players ahead (nodes ∷ older)) (marked : IsMarked players (nodes ∷ older)) where
  abbrev past : List (ℕ → Node)
  past = nodes ∷ older

  -- its rows are those of the makers of these commands of others
  abbrev AreRows : (ℕ → ℕ) → Type 0
  AreRows got = (p tic back r : ℕ) (maker : Node) → p < players → r < players → (q ≡ p → ⊥) → Was past p maker
      → maker.got p ≡ tic → tic < got p → back + 12 ≤ tic → IsSameRow (nodes q) maker back r

  old_row : AreRows (nodes q).got
  old_row p tic back r maker m n f w e s b = marked.marked q p tic back r (nodes q) maker l m n f (inl refl) w e s b

  -- it made one command more
  row_of_own : (end : ℕ) → AreRows (put (nodes q).got q end)
  row_of_own end p tic back r maker m n f y e s b =
      let c = put_off (nodes q).got q p end (λ i. f (sym i)) in
      old_row p tic back r maker m n f y e (omega arith) b

  -- one count was raised to what another handed on
  handed_row : IsRun players ahead past → (a end : ℕ) (sent : Node) → HandsOn players past (nodes q) a sent
      → sent.gone q ≡ false → (nodes q).gone a ≡ false → end ≤ sent.got a → AreRows (put (nodes q).got a end)
  handed_row run a end sent hands g o h p tic back r maker m n f y e s b = elim (cases_eq p a) [
    | inr d ↦ let c = put_off (nodes q).got a p end d in old_row p tic back r maker m n f y e (omega arith) b
    | inl d ↦
        let c = put_at (nodes q).got a p end d in
        let i : sent.got p ≡ sent.got a = ap sent.got d in
        let j : sent.got p ≤ (nodes q).got q + ahead = room.near q hands.0 p sent l here hands.1 g in
        let t = room.own q (nodes q) (inl refl) in
        let v : maker.got p ≤ ran maker + ahead = room.own p maker y in
        let mine : back < ran (nodes q) = omega arith in
        let its : back < ran maker = omega arith in
        let open_p : (nodes q).gone p ≡ false = ap (nodes q).gone d ∙ o in
        record {
          ran_it = mine;
          made_it = its;
          same = rows_alike players past kept q p (nodes q) maker l m f (inl refl) y open_p
              (λ k decides below. elim (cases_Bool (k.gone q)) [
                | inr z ↦ z
                | inl z ↦
                    let x : sent.got p ≤ k.got p = handed_behind players ahead past kept p k decides nodes older
                    (λ i u w. w) (behind players ahead past kept p k decides past run (λ i u w. w)) q (nodes q) sent
                    (subst (λ (i : ℕ). HandsOn players past (nodes q) i sent) (sym d) hands) g open_p z in
                    absurd (omega arith)
              ]) r back n mine its;
        }
  ]

  -- its rows are those of one who told it something, as neither had given up the other
  told_row : (p r back tic : ℕ) (sent : Node) → p < players → r < players → (q ≡ p → ⊥) → Was past p sent
      → sent.gone q ≡ false → (nodes q).gone p ≡ false → (a : ℕ) → tic < sent.got a → back + 12 ≤ tic
      → back < ran sent → (back < ran (nodes q)) × (lacks_at (nodes q) back r ≡ lacks_at sent back r)
  told_row p r back tic sent m n f w g o a b c d =
      let s = room.near q p a sent l here w g in
      let k : back < ran (nodes q) = omega (arith, room.own q (nodes q) (inl refl)) in
      (k, (agree players past kept).rows_same q p r back (nodes q) sent l m n f (inl refl) w o g k d)

  decided_row : (heard : ℕ → Node) → HasHeard players past q (nodes q) heard
      → AreRows (decided players q (nodes q) heard).got
  decided_row heard hears p tic back r maker m n f y e s b = elim (cases_Bool ((nodes q).gone p)) [
    | inr t ↦
        let c = got_out players nodes older q l here kept heard hears p t in
        old_row p tic back r maker m n f y e (omega arith) b
    | inl t ↦
        let c = got_in players nodes older q l here kept heard hears p t in
        elim (reached players nodes older q l here kept heard hears p) [
          | inl d ↦ old_row p tic back r maker m n f y e (omega arith) b
          | inr k ↦
              let ev = hears k.0 k.1 k.2 k.3 in
              let d : decided_end players q (nodes q) heard p ≡ (heard k.0).got p = k.4 in
              let u : tic < (heard k.0).got p = omega arith in
              let apart : (k.0 ≡ p → ⊥) = λ i. both_ways ((nodes q).gone p) (ap (nodes q).gone (sym i) ∙ k.3) t in
              let there = marked.marked k.0 p tic back r (heard k.0) maker k.1 m n apart ev.0 y e u b in
              let row = told_row k.0 r back tic (heard k.0) k.1 n (λ i. k.2 (sym i)) ev.0
              (not_q players nodes older q l here kept heard hears k.0 k.1 k.2 k.3) k.3 p u b there.ran_it in
              record { ran_it = row.0; made_it = there.made_it; same = row.1 ∙ there.same }
        ]
  ]

  -- whose counts are those of a state that is named
  at : (new next : Node) → next ≡ new → AreRows new.got → AreRows next.got
  at new next e h = subst (λ (n : Node). AreRows n.got) (sym e) h

  new_row : IsRun players ahead past → (act : Act) (new : Node) → Acts players ahead past q act new → AreRows new.got
  new_row run Make new a = at _ new a.1 (row_of_own ((nodes q).got q + 1))
  new_row run Take new a = at _ new a.8 (handed_row run a.0 a.1 a.2 a.3 a.4 a.5 a.7)
  new_row run Learn new a = at _ new a.5 (handed_row run a.0 ((nodes a.0).got a.0) (nodes a.0)
      (a.0, inl refl, inl refl) a.4 a.2 (omega arith))
  new_row run Run new a = at _ new a.1 old_row
  new_row run GiveUp new a = at _ new a.3 old_row
  new_row run Leave new a = at _ new a old_row
  new_row run Decide new a = at _ new a.2 (decided_row a.0 a.1)

  module _ (new : Node) (kept' : IsKept players (put nodes q new ∷ past)) (row : AreRows new.got) where
    rises : (p : ℕ) → (nodes q).got p ≤ new.got p
    rises p =
        let a = (kept'.order q (nodes q) (inr (inl refl))).got p in
        let b : (put nodes q new q).got p ≡ new.got p = ap (λ (n : Node). n.got p) (put_at nodes q q new refl) in
        omega arith

    grown : IsGrown (nodes q) new
    grown = grind (arith, IsGrown, put_at)

    -- the maker's state is an old one, or nobody else has the command yet
    by_old : (p tic back r : ℕ) (maker : Node) → p < players → r < players → Was (nodes ∷ older) p maker
        → maker.got p ≡ tic → back + 12 ≤ tic → (x : ℕ) (u : Node) → Was (put nodes q new ∷ nodes ∷ older) x u
        → x < players → (x ≡ p → ⊥) → tic < u.got p → IsSameRow u maker back r
    by_old p tic back r maker m n y e b = each_was nodes older q new
        (λ x u. x < players → (x ≡ p → ⊥) → tic < u.got p → IsSameRow u maker back r)
        (λ l f s. row_grown (nodes q) new maker back r grown (row p tic back r maker m n f y e s b))
        (λ x u w l f s. marked.marked x p tic back r u maker l m n f w y e s b)

    marked_after : IsMarked players (put nodes q new ∷ nodes ∷ older)
    marked_after = record {
      marked = λ x p tic back r u maker l m n f w y e s b. each_was nodes older q new
          (λ p maker. p < players → (x ≡ p → ⊥) → maker.got p ≡ tic → tic < u.got p → IsSameRow u maker back r)
          (λ m f e s.
          let k : u.got q ≤ (nodes q).got q = (kept.sound x u (was_other nodes older q new x u f w)).made q in
          let c = rises q in
          absurd (omega arith))
          (λ p maker y m f e s. by_old p tic back r maker m n y e b x u w l f s) p maker y m f e s;
    }

steps : (players ahead : ℕ) → ahead + ahead ≤ 12 → (nodes : ℕ → Node) (older : List (ℕ → Node)) (next : ℕ → Node)
    → IsRun players ahead (nodes ∷ older)
    → Step players ahead (nodes ∷ older) next → IsKept players (nodes ∷ older) → IsKept players (next ∷ nodes ∷ older)
    → IsRoomy players ahead (nodes ∷ older) → IsMarked players (nodes ∷ older) → IsMarked players (next ∷ nodes ∷ older)
steps players ahead low nodes older next run step kept kept' room marked =
    subst (λ (n : ℕ → Node). IsMarked players (n ∷ nodes ∷ older)) (sym step.next_is)
    (marked_after players ahead nodes older step.q step.player step.here kept low room marked step.new
    (subst (λ (n : ℕ → Node). IsKept players (n ∷ nodes ∷ older)) step.next_is kept')
    (new_row players ahead nodes older step.q step.player step.here kept low room marked run step.act step.new step.acts))

opens : (players : ℕ) → IsMarked players ((λ node. fresh) ∷ [])
opens players = grind arith

marks : (players ahead : ℕ) → ahead + ahead ≤ 12 → (history : List (ℕ → Node)) → IsRun players ahead history → IsMarked players history
marks players ahead low [] run = absurd run
marks players ahead low (nodes ∷ []) run = subst (λ (n : ℕ → Node). IsMarked players (n ∷ [])) (sym run) (opens players)
marks players ahead low (next ∷ (nodes ∷ older)) run = steps players ahead low nodes older next run.1 run.0
    (always players ahead (nodes ∷ older) run.1) (always players ahead (next ∷ (nodes ∷ older)) run)
    (roomy players ahead (nodes ∷ older) run.1) (marks players ahead low (nodes ∷ older) run.1)

-- of a player whom a node has not given up, it has nothing that was made after a decision without the node
module _ (players ahead : ℕ) (history : List (ℕ → Node)) (run : IsRun players ahead history) where
  apart : ahead ≤ 12 → (x p tic back r : ℕ) (u maker : Node) → x < players → p < players → r < players
      → (x ≡ p → ⊥) → Was history x u → Was history p maker → u.gone p ≡ false → maker.got p ≡ tic
      → back < ran maker → back < ran u → tic < u.got p → lacks_at u back r ≡ lacks_at maker back r
  apart low x p tic back r u maker l m n f w y g e i j held =
      let kept = always players ahead history run in
      rows_alike players history kept x p u maker l m f w y g
      (λ d decides below. elim (cases_Bool (d.gone x)) [
        | inr o ↦ o
        | inl t ↦ grind (arith, behind)
      ]) r back n j i

  own_row : (p back r : ℕ) (u maker : Node) → Was history p u → Was history p maker → back < ran maker
      → back < ran u → lacks_at u back r ≡ lacks_at maker back r
  own_row p back r u maker w y i j = grind (arith, always)

  same : ahead ≤ 12 → (x p tic back r : ℕ) (u maker : Node) → x < players → p < players → r < players
      → Was history x u → Was history p maker → u.gone p ≡ false → maker.got p ≡ tic → tic < ran maker + ahead
      → tic < ran u → lacks_at u tic p ≡ false → back + 12 ≤ tic
      → (back < ran maker) × (lacks_at u back r ≡ lacks_at maker back r)
  same low x p tic back r u maker l m n w y g e a s t b =
      let held : tic < u.got p =
      (agree players history (always players ahead history run)).rows_held x p tic u w m s t in
      let i : back < ran maker = omega arith in
      let j : back < ran u = omega arith in (
        i,
        elim (cases_eq x p) [
          | inr f ↦ apart low x p tic back r u maker l m n f w y g e i j held
          | inl f ↦ own_row p back r u maker (subst (λ (k : ℕ). Was history k u) f w) y i j
        ],
      )

  relayed : ahead + ahead ≤ 12 → (x p tic back r : ℕ) (u maker : Node) → x < players → p < players → r < players
      → Was history x u → Was history p maker → maker.got p ≡ tic → tic < ran u → lacks_at u tic p ≡ false
      → back + 12 ≤ tic → (back < ran maker) × (lacks_at u back r ≡ lacks_at maker back r)
  relayed low x p tic back r u maker l m n w y e s t b =
      let held : tic < u.got p =
      (agree players history (always players ahead history run)).rows_held x p tic u w m s t in
      let a : maker.got p ≤ ran maker + ahead = (roomy players ahead history run).own p maker y in
      let i : back < ran maker = omega arith in
      let j : back < ran u = omega arith in (
        i,
        elim (cases_eq x p) [
          | inr f ↦ ((marks players ahead low history run).marked x p tic back r u maker l m n f w y e held b).same
          | inl f ↦ own_row p back r u maker (subst (λ (k : ℕ). Was history k u) f w) y i j
        ],
      )

  pub marked : ahead ≤ 12 → Marked players ahead history
  marked low = record { same = same low; relayed = relayed }

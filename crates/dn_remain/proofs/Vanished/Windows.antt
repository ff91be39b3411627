-- How far counts may lie apart, how many commands a node has that it has not run, and what else fits. Every
-- command was made by a step that might make it.
use Rattle.std.proofs.Common.{◌≡◌, ℕ, ◌+◌, ◌<◌, ◌≤◌, refl, sym, ◌∙◌, ap, subst, arith, inl, inr, List, [], ◌∷◌, false}
use Rattle.std.proofs.{Common.{None, true}, lemmas.{Bool.{both_ways, cases_eq, cases_lt, cases_Bool}, List.length_push}}
use Rattle.dn_machine.proofs.Put.{put_at, put_off}
use Rattle.dn_machine.specs.Node.{put}
use Rattle.dn_remain.specs.Vanished.Steps.{Act, Acts, Step, IsRun, HandsOn, Make, Take, Learn, Run, GiveUp, Leave}
use Rattle.dn_remain.specs.Vanished.{Steps.Decide, Node.{Node, ran, fresh, now, Was, HasHeard, decided}, Promise.Fits}
use Rattle.dn_remain.proofs.{Vanished.Invariant.IsKept, Vanished.Views.outside, Vanished.Views.stands_outside, Vanished.Stepping.was_q, Vanished.Stepping.was_other, Vanished.Stepping.cases_Option}
use Rattle.dn_remain.proofs.{Vanished.Deciding.got_in, Vanished.Deciding.got_out, Vanished.Deciding.reached, Vanished.Always.always, Vanished.Put.at_put, Vanished.Stepping.each_was}

module _ (players ahead : ℕ) (nodes : ℕ → Node) (older : List (ℕ → Node)) (q : ℕ) (l : q < players)
    (here : (nodes q).left ≡ false) (kept : IsKept players (nodes ∷ older)) (tic : ℕ)
    (low : (nodes q).got q ≤ tic) where
  -- a step after which its own count is no higher made nothing
  none : {A : Type 0} (new : Node) → new.got q ≤ (nodes q).got q → tic < new.got q → A
  none new h k = absurd (omega arith)

  own : (new : Node) (f : ℕ → ℕ) (n : ℕ) → new.got ≡ f → f q ≡ n → new.got q ≡ n
  own new f n e d = ap (λ (g : ℕ → ℕ). g q) e ∙ d

  made_new : (act : Act) (new : Node) → Acts players ahead (nodes ∷ older) q act new → tic < new.got q
      → ((nodes q).got q ≡ tic) × (tic < ran (nodes q) + ahead)
  made_new Make new a k = grind (arith, own, put_at)
  made_new Take new a k = none new
      (elim (cases_eq q a.0) [
        | inr n ↦ grind (arith, own, put_off)
        | inl e ↦
            let c : new.got q ≡ a.1 =
            own new _ _ (ap (λ (n : Node). n.got) a.8) (put_at (nodes q).got a.0 q a.1 e) in
            let d : a.2.got a.0 ≤ (nodes a.0).got a.0 = (kept.sound a.3.0 a.2 a.3.1).made a.0 in
            let f : a.1 ≤ a.2.got a.0 = a.7 in
            let g : (nodes q).got q ≡ (nodes a.0).got a.0 = ap (λ (i : ℕ). (nodes i).got i) e in
            omega arith
      ]) k
  made_new Learn new a k = grind (arith, none, own, put_off)
  made_new Run new a k = grind (arith, none)
  made_new GiveUp new a k = grind (arith, none)
  made_new Leave new a k = grind (arith, none)
  made_new Decide new a k = grind (arith, none, got_out, own)

pub made : (players ahead : ℕ) (history : List (ℕ → Node)) → IsRun players ahead history → (p tic : ℕ)
    → tic < (now history p).got p
    → (maker : Node) × Was history p maker × (maker.got p ≡ tic) × (tic < ran maker + ahead)
made players ahead [] run p tic k = absurd run
made players ahead (nodes ∷ []) run p tic k = grind arith
made players ahead (next ∷ (nodes ∷ older)) run p tic k =
    let step = run.0 in
    let lift : (p : ℕ) → tic < (nodes p).got p → (maker : Node) × Was (next ∷ (nodes ∷ older)) p maker
    × (maker.got p ≡ tic) × (tic < ran maker + ahead) =
    λ p m. let before = made players ahead (nodes ∷ older) run.1 p tic m in (before.0, inr before.1, before.2, before.3) in
    at_put (λ p n. tic < n.got p → (maker : Node) × Was (next ∷ (nodes ∷ older)) p maker × (maker.got p ≡ tic)
    × (tic < ran maker + ahead)) nodes step.q step.new
    (λ k. elim (cases_lt tic ((nodes step.q).got step.q)) [
      | inl m ↦ lift step.q m
      | inr m ↦
          let d = made_new players ahead nodes older step.q step.player step.here
          (always players ahead (nodes ∷ older) run.1) tic m step.act step.new step.acts k in
          (nodes step.q, inr (inl refl), d.0, d.1)
    ])
    (λ p n. lift p) p (subst (λ (n : Node). tic < n.got p) (ap (λ (f : ℕ → Node). f p) step.next_is) k)

pub record IsRoomy (players ahead : ℕ) (history : List (ℕ → Node)) : Type 0 where
  -- nobody made more commands beyond the tics run than the window allows
  pub own : (x : ℕ) (u : Node) → Was history x u → u.got x ≤ ran u + ahead
  -- nobody who had not given up a node has more commands beyond those that it made than that
  pub near : (x r p : ℕ) (v : Node) → x < players → (now history x).left ≡ false → Was history r v
      → v.gone x ≡ false → v.got p ≤ (now history x).got x + ahead

module _ (players ahead : ℕ) (nodes : ℕ → Node) (older : List (ℕ → Node)) (q : ℕ) (l : q < players)
    (here : (nodes q).left ≡ false) (kept : IsKept players (nodes ∷ older))
    (roomy : IsRoomy players ahead (nodes ∷ older)) where
  -- of one who is not given up and has not left no end is known
  not_ended : (x : ℕ) → (nodes x).left ≡ false → (nodes q).gone x ≡ false → (nodes q).ends x ≡ None
  not_ended x h o = elim (cases_Option ((nodes q).ends x)) [
    | inl e ↦ e
    | inr e ↦ elim ((kept.sound q (nodes q) (inl refl)).source x e.0 e.1) [
      | inl k ↦ absurd (both_ways (nodes x).left h k.0)
      | inr d ↦ absurd (both_ways ((nodes q).gone x) o (d.4 x d.2))
    ]
  ]

  -- what was sent by one who had not given up `q`
  sent_near : (p x : ℕ) (sent : Node) → x < players → (nodes x).left ≡ false → (nodes q).gone x ≡ false
      → Was (nodes ∷ older) p sent → sent.gone q ≡ false → sent.got p ≤ (nodes x).got x + ahead
  sent_near p x sent m h o w g =
      let sound = kept.sound p sent w in
      elim (cases_Option (sent.ends x)) [
        | inl e ↦ grind arith
        | inr e ↦ elim (sound.source x e.0 e.1) [
          | inl k ↦ absurd (both_ways (nodes x).left h k.0)
          | inr d ↦ grind (arith, d.1.sees q l (outside d.0.gone sent.gone q d.4 g), both_ways)
        ]
      ]

  -- and what was handed on by one who had given up nobody but whom `q` has given up
  handed_near : (p x : ℕ) (sent : Node) → x < players → (nodes x).left ≡ false → (nodes q).gone x ≡ false
      → HandsOn players (nodes ∷ older) (nodes q) p sent → sent.gone q ≡ false → sent.got p ≤ (nodes x).got x + ahead
  handed_near p x sent m h o hands g = grind (arith, sent_near, outside)

  near_old : (x p : ℕ) → x < players → (nodes x).left ≡ false → (nodes q).gone x ≡ false
      → (nodes q).got p ≤ (nodes x).got x + ahead
  near_old x p m h o = roomy.near x q p (nodes q) m h (inl refl) o

  -- one count rises, to one that is near enough
  near_put : (x p end r : ℕ) → (nodes q).got r ≤ (nodes x).got x + ahead → end ≤ (nodes x).got x + ahead
      → put (nodes q).got p end r ≤ (nodes x).got x + ahead
  near_put x p end r h k = grind (arith, put_at, put_off)

  near_decided : (heard : ℕ → Node) → HasHeard players (nodes ∷ older) q (nodes q) heard → (x p : ℕ) → x < players
      → (nodes x).left ≡ false → (nodes q).gone x ≡ false
      → (decided players q (nodes q) heard).got p ≤ (nodes x).got x + ahead
  near_decided heard hears x p m h o = grind (arith, got_out, near_old, got_in, reached, stands_outside)

  at : (A : Node → Type 0) (new next : Node) → next ≡ new → A new → A next
  at A new next e h = subst A (sym e) h

  near_new : (act : Act) (new : Node) → Acts players ahead (nodes ∷ older) q act new → (x p : ℕ) → x < players
      → (nodes x).left ≡ false → new.gone x ≡ false → new.got p ≤ (nodes x).got x + ahead
  near_new act new a = grind (arith, at, not_ended, near_put, near_old, handed_near, sent_near, both_ways, put_at, put_off, near_decided)

  own_old : (nodes q).got q ≤ ran (nodes q) + ahead
  own_old = roomy.own q (nodes q) (inl refl)

  own_put : (p end : ℕ) → (p ≡ q → end ≤ ran (nodes q) + ahead) → put (nodes q).got p end q ≤ ran (nodes q) + ahead
  own_put p end h = grind (arith, put_at, put_off, own_old)

  own_new : (act : Act) (new : Node) → Acts players ahead (nodes ∷ older) q act new → new.got q ≤ ran new + ahead
  own_new act new a = grind (arith, at, own_put, own_old, length_push, got_out)

  module _ (new : Node) (kept' : IsKept players (put nodes q new ∷ nodes ∷ older))
      (fresh_own : new.got q ≤ ran new + ahead)
      (fresh_near : (x p : ℕ) → x < players → (nodes x).left ≡ false → new.gone x ≡ false
      → new.got p ≤ (nodes x).got x + ahead) where
    rises : (x : ℕ) → (nodes x).got x ≤ (put nodes q new x).got x
    rises x = (kept'.order x (nodes x) (inr (inl refl))).got x

    still : (x : ℕ) → (put nodes q new x).left ≡ false → (nodes x).left ≡ false
    still x h = grind (arith, put_off)

    own_after : (x : ℕ) (u : Node) → Was (put nodes q new ∷ nodes ∷ older) x u → u.got x ≤ ran u + ahead
    own_after x u w = grind (arith, was_q, was_other)

    near_before : (x r p : ℕ) (v : Node) → x < players → (put nodes q new x).left ≡ false
        → Was (put nodes q new ∷ nodes ∷ older) r v → v.gone x ≡ false → v.got p ≤ (nodes x).got x + ahead
    near_before x r p v m h w o = grind (arith, was_q, still, was_other)

    roomy_after : IsRoomy players ahead (put nodes q new ∷ nodes ∷ older)
    roomy_after = record {
      own = own_after;
      near = λ x r p v m h w o.
          let a = near_before x r p v m h w o in
          let b : (nodes x).got x ≤ (put nodes q new x).got x = rises x in
          omega arith;
    }

steps : (players ahead : ℕ) (nodes : ℕ → Node) (older : List (ℕ → Node)) (next : ℕ → Node)
    → Step players ahead (nodes ∷ older) next → IsKept players (nodes ∷ older) → IsKept players (next ∷ nodes ∷ older)
    → IsRoomy players ahead (nodes ∷ older) → IsRoomy players ahead (next ∷ nodes ∷ older)
steps players ahead nodes older next step kept kept' roomy = grind (arith, roomy_after, roomy, IsKept, own_new, near_new)

is_fresh : (x : ℕ) (u : Node) → Was ((λ node. fresh) ∷ []) x u → u ≡ fresh
is_fresh x u w = grind arith

opens : (players ahead : ℕ) → IsRoomy players ahead ((λ node. fresh) ∷ [])
opens players ahead = grind (arith, is_fresh)

pub roomy : (players ahead : ℕ) (history : List (ℕ → Node)) → IsRun players ahead history → IsRoomy players ahead history
roomy players ahead [] run = absurd run
roomy players ahead (nodes ∷ []) run = subst (λ (n : ℕ → Node). IsRoomy players ahead (n ∷ [])) (sym run) (opens players ahead)
roomy players ahead (next ∷ (nodes ∷ older)) run = steps players ahead nodes older next run.0
    (always players ahead (nodes ∷ older) run.1) (always players ahead (next ∷ (nodes ∷ older)) run)
    (roomy players ahead (nodes ∷ older) run.1)

pub now_was : (players ahead : ℕ) (history : List (ℕ → Node)) → IsRun players ahead history → (x : ℕ) → Was history x (now history x)
now_was players ahead [] run x = absurd run
now_was players ahead (nodes ∷ older) run x = inl refl

-- a step after which a node has left changes no count
module _ (players ahead : ℕ) (nodes : ℕ → Node) (older : List (ℕ → Node)) (q : ℕ) (here : (nodes q).left ≡ false)
  where
    changed : (new next : Node) → next ≡ new → new.left ≡ (nodes q).left → next.left ≡ true → ⊥
    changed new next e same t = both_ways (nodes q).left here (sym same ∙ (sym (ap (λ (n : Node). n.left) e) ∙ t))

    counted : (act : Act) (new : Node) → Acts players ahead (nodes ∷ older) q act new → new.left ≡ true → (p : ℕ)
        → (new.got p ≡ (nodes q).got p) × (ran new ≡ ran (nodes q))
    counted act new a t p = grind (arith, changed)

unread_now : (players ahead : ℕ) (history : List (ℕ → Node)) → IsRun players ahead history → (x p : ℕ)
    → x < players → (now history x).left ≡ false → (now history x).got p ≤ ran (now history x) + (ahead + ahead)
unread_now players ahead history run x p l h =
    let kept = always players ahead history run in
    let room = roomy players ahead history run in
    let here = now_was players ahead history run x in
    let a = room.own x (now history x) here in
    omega (arith, room.near x x p (now history x) l h here (kept.sound x (now history x) here).own)

unread : (players ahead : ℕ) (history : List (ℕ → Node)) → IsRun players ahead history → (x p : ℕ) (u : Node)
    → x < players → Was history x u → u.got p ≤ ran u + (ahead + ahead)
unread players ahead [] run x p u l w = absurd run
unread players ahead (nodes ∷ []) run x p u l w = grind arith
unread players ahead (next ∷ (nodes ∷ older)) run x p u l w =
    let step = run.0 in
    let at : next step.q ≡ step.new =
    ap (λ (f : ℕ → Node). f step.q) step.next_is ∙ put_at nodes step.q step.q step.new refl in
    each_was nodes older step.q step.new (λ x u. x < players → u.got p ≤ ran u + (ahead + ahead))
    (λ l. elim (cases_Bool step.new.left) [
      | inr f ↦ subst (λ (n : Node). n.got p ≤ ran n + (ahead + ahead)) at
          (unread_now players ahead (next ∷ (nodes ∷ older)) run step.q p l (ap (λ (n : Node). n.left) at ∙ f))
      | inl t ↦
          let c = counted players ahead nodes older step.q step.here step.act step.new step.acts t p in
          let before = unread players ahead (nodes ∷ older) run.1 step.q p (nodes step.q) step.player (inl refl) in
          omega (arith, c.0, c.1)
    ])
    (λ x u o l. unread players ahead (nodes ∷ older) run.1 x p u l o) x u
    (subst (λ (s : ℕ → Node). Was (s ∷ nodes ∷ older) x u) step.next_is w) l

pub fits : (players ahead : ℕ) (history : List (ℕ → Node)) → IsRun players ahead history
    → Fits players ahead history
fits players ahead history run =
    let kept = always players ahead history run in
    let room = roomy players ahead history run in
    let here = now_was players ahead history run in
    let lacking : (x r p : ℕ) (v : Node) → x < players → p < players → (now history x).left ≡ false
    → Was history r v → v.gone x ≡ false → (now history x).ends p ≡ None
    → v.got p ≤ (now history x).got p + (ahead + ahead) = λ x r p v l m h w o e.
    let a = room.own x (now history x) (here x) in
    let b = room.near x r p v l h w o in
    let c : ran (now history x) ≤ (now history x).got p = (kept.sound x (now history x) (here x)).ahead p m e in
    omega arith in
    record {
      held = λ x p u w. (kept.sound x u w).made p;
      own = room.own;
      run = λ x p u w l e. (kept.sound x u w).ahead p l e;
      close = room.near;
      unread = unread players ahead history run;
      overrun = grind arith;
      unheard = λ x r p v l m i n h g w o. elim (cases_Option ((now history x).ends p)) [
        | inl e ↦ lacking x r p v l i h w o e
        | inr e ↦
            let a : v.got p ≤ e.0 = kept.met x r (now history x) v l m n (here x) w g o p e.0 e.1 in
            let b : (now history x).got p ≡ e.0 = (kept.sound x (now history x) (here x)).full p e.0 e.1 in
            omega arith
      ];
      unended = lacking;
    }

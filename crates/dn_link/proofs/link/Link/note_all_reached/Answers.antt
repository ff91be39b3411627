-- What is noted of one peer after the other is noted of all.
use Rattle.std.proofs.Common.{◌≡◌, ◌<◌, ◌≤◌, ◌+◌, ◌-◌, ◌⊎◌, ℕ, Bool, true, false, refl, ap, sym, ◌∙◌, arith, inl, inr, rules, length, map}
use Rattle.std.proofs.lemmas.{Bool.{cases_eq, cases_lt, ltb-true}, List.{get_or_past, length-map}}
use Rattle.std.specs.Prelude.{if◌then◌else◌, nat_lt}
use Rattle.dn_machine.specs.Node.{put}
use Rattle.dn_machine.proofs.Put.{put_at, put_off, same_functions}
use Rattle.dn_lockstep.specs.Contents.{Contents}
use Rattle.dn_link.specs.{Counting.reached, Kept.acknowledged, Linked.{Linked, PeerState, with_reached}, Linking.{new_peer, linked, state_of}}
use Rattle.dn_link.proofs.link.Link.note_all_reached.Goals as goal

-- one is noted
abbrev noted : Contents → ℕ → (ℕ → PeerState) → ℕ → PeerState
noted node player peers = put peers player (with_reached node peers player)

abbrev note : ℕ → Linked → Linked
note player link = record link { peers = noted link.node player link.peers }

module _ (node : Contents) (peers : ℕ → PeerState) (few : node.players ≤ 4)
    (none : (place : ℕ) → 4 ≤ place → peers place ≡ new_peer) where
  -- of these players it is
  record IsNoted (count : ℕ) (now : ℕ → PeerState) : Type 0 where
    done : (place : ℕ) → place < count → now place ≡ with_reached node peers place
    left : (place : ℕ) → count ≤ place → now place ≡ peers place

  on : (count : ℕ) (now : ℕ → PeerState) → IsNoted count now → IsNoted (count + 1) (noted node count now)
  on count now is =
      record {
        done = λ place below. elim (cases_eq place count) [
          | inl at ↦
              put_at now count place (with_reached node now count) at
              ∙ ap (with_place count) (is.left count (omega arith)) ∙ ap (with_reached node peers) (sym at)
          | inr off ↦ put_off now count place (with_reached node now count) off ∙ is.done place (omega (arith, below, off))
        ];
        left = λ place past. put_off now count place (with_reached node now count)
            (λ e. absurd (omega (arith, past, e))) ∙ is.left place (omega (arith, past));
      }
    where
      with_place : ℕ → PeerState → PeerState
      with_place place peer = record peer { kept = acknowledged peer.kept (reached node place) }

  outside : (place : ℕ) → 4 ≤ place → reached node place ≡ 0
  outside place past = go (nat_lt place node.players) refl
    where
      go : (test : Bool) → nat_lt place node.players ≡ test
          → (if test then (node.rings place).count else 0) - node.ahead ≡ 0
      go true is = let below = ltb-true place node.players is in absurd (omega (arith, below, few, past))
      go false is = omega arith

  all_noted : noted node 3 (noted node 2 (noted node 1 (noted node 0 peers))) ≡ with_reached node peers
  all_noted = same_functions (λ place. by place (cases_lt place 4))
    where
      is : IsNoted 4 (noted node 3 (noted node 2 (noted node 1 (noted node 0 peers))))
      is = on 3 _ (on 2 _ (on 1 _ (on 0 peers (record {
        done = λ place below. absurd (omega (arith, below));
        left = λ place past. refl;
      }))))

      by : (place : ℕ) → (place < 4) ⊎ (4 ≤ place)
          → noted node 3 (noted node 2 (noted node 1 (noted node 0 peers))) place ≡ with_reached node peers place
      by place (inl below) = is.done place below
      by place (inr past) =
          let new = none place past in
          let zero = outside place past in
          let same : with_reached node peers place ≡ new_peer =
          (λ i. record (new i) { kept = acknowledged (new i).kept (zero i) }) in
          is.left place past ∙ new ∙ sym same

pub returns-clause-link : goal.returns-clause-link
returns-clause-link c =
    let old = c.args.self.now in
    let link = linked old in
    let four : length old.peers ≡ 4 = search rules in
    let each : linked c.note_reached-4.new.self ≡ note 3 (note 2 (note 1 (note 0 link))) =
    c.note_reached-4.ensures.link ∙ ap (note 3) (c.note_reached-3.ensures.link
    ∙ ap (note 2) (c.note_reached-2.ensures.link ∙ ap (note 1) c.note_reached.ensures.link)) in
    each ∙ ap (λ (f : ℕ → PeerState). record link { peers = f })
    (all_noted link.node link.peers old.survivor.lockstep.few
    (λ place past. get_or_past (map state_of old.peers) place new_peer
    (let count = length-map old.peers state_of in omega (arith, count, four, past))))

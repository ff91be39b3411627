-- New links of one place: one may stand for another.
use Rattle.std.proofs.Common.{◌≡◌, ◌<◌, ℕ, List, refl, ap, sym, subst, ◌∙◌, arith, Option, Some, None}
use Rattle.dn_setup.specs.Settings.{Settings}
use Rattle.dn_machine.specs.{Limits.Limits, Node.Node, Started.started_node}
use Rattle.dn_machine.proofs.Put.{same_functions}
use Rattle.dn_lockstep.specs.{Contents.Contents, Marking.Marking, Represents.Represents}
use Rattle.dn_remain.specs.Remaining.{wary_of}
use Rattle.dn_survivor.specs.OneGame.{AreRemaining, Session, with_survivor}
use Rattle.dn_survivor.specs.OfOthers as others
use Rattle.dn_survivor.specs.Represents as survivor
use Rattle.dn_survivor.specs.Surviving.{Surviving}
use Rattle.dn_survivor.specs.declared.others.Others.{Others}
use Rattle.dn_link.specs.{Linked.surviving_of, Linking.linked, declared.link.Link.Link}
use Rattle.dn_link.proofs.Growing.{grows, holds_same}
use Rattle.dn_link.proofs.RemainingCalls as calls
use Rattle.dn_session.specs.{Parts.AreParts, Parts.limits_of, Parts.links_of, Playing.Playing, Roster.IsSide, Roster.own_number, Roster.session_at}
use Rattle.dn_session.specs.{Session.IsLinkOf, Session.begun_in, Sessions.PlaysWith, Text.game_seal, declared.side.Begun.Begun, declared.side.Side.Side}
use Rattle.dn_session.proofs.{Going.GoOn, Going.one_put, Going.silently, Rosters.one_link, Rosters.ones_game, Rosters.ones_own}

-- of two that represent a node before its first tic the one represents what the other does
swapped : (limits : Limits) (me : ℕ) (settings : Settings) (one two : Contents) (m : Node)
    → Represents limits me one (started_node limits.players settings me)
    → Represents limits me two (started_node limits.players settings me)
    → Represents limits me one m → Represents limits me two m
swapped limits me settings one two m a b r = grind arith

-- a link of one place as another session has it
relabelled : (secret : Option (List ℕ)) (b here : Begun) (player : ℕ) (link : Link) → b.game ≡ here.game
    → b.terms ≡ here.terms → here.me ≡ player → IsLinkOf secret here link
    → IsLinkOf secret (record b { me = player }) link
relabelled secret b here player link game terms me is = grind arith

-- it plays the same game, and has the number of its place in it
shares : (one side : Side) (b here : Begun) (player : ℕ) (fits : IsSide one) (begun : begun_in one ≡ Some b)
    → PlaysWith one b player side here → (b.terms ≡ here.terms)
    × (session_at (record { game = (ones_game one b begun).0.game; me = player }) ≡ own_number side)
shares one side b here player fits begun plays =
    let a = ones_game one b begun in
    let c = ones_game side here plays.begun in
    let same = one_link one side a.0 c.0 fits plays.fits plays.key a.1 c.1 (plays.apart a.0 c.0 a.1 c.1)
    (sym a.2 ∙ plays.game ∙ c.2) in (
      a.3 ∙ ap (λ g. g.terms) same.0 ∙ sym c.3,
      (λ i. session_at (record { game = same.0 i; me = (sym plays.me ∙ c.4) i }))
          ∙ ones_own side c.0 plays.fits c.1,
    )

pub place_link : (secret : Option (List ℕ)) (one side : Side) (b here : Begun) (player : ℕ) (link : Link)
    → IsSide one → begun_in one ≡ Some b → PlaysWith one b player side here → IsLinkOf secret here link
    → IsLinkOf secret (record b { me = player }) link
place_link secret one side b here player link fits begun plays is =
    relabelled secret b here player link plays.game
    (shares one side b here player fits begun plays).0 plays.me is

-- two in one place have one number
pub one_place : (one first second : Side) (b here there : Begun) (player : ℕ) → IsSide one → begun_in one ≡ Some b
    → PlaysWith one b player first here → PlaysWith one b player second there
    → own_number first ≡ own_number second
one_place one first second b here there player fits begun p q =
    sym (shares one first b here player fits begun p).1 ∙ (shares one second b there player fits begun q).1

-- a part with a new link takes the place of another
pub replaces : (marking : Marking) (secret : Option (List ℕ)) (b : Begun) (session : Session) (parts : ℕ → Playing)
    (player : ℕ) (new : Playing)
    → AreParts marking (limits_of b.terms) b.terms.settings (game_seal secret b.game) session parts
    → player < b.terms.players → IsLinkOf secret (record b { me = player }) (parts player).link
    → IsLinkOf secret (record b { me = player }) new.link
    → GoOn marking (limits_of b.terms) b.terms.settings (game_seal secret b.game) session parts player new None
replaces marking secret b session parts player new are few old is =
    let limits : Limits = limits_of b.terms in
    let links = links_of parts in
    let now : Surviving = surviving_of (linked new.link) in
    let later : Session = with_survivor session player now in
    let g : AreRemaining marking limits b.terms.settings session = are.links.game in
    let was : survivor.Represents limits player (surviving_of (links player)) (wary_of g.last player) =
    subst (λ (s : Surviving). survivor.Represents limits player s (wary_of g.last player))
    (sym (are.links.survivors player few)) (g.nodes player few) in
    let here : survivor.Represents limits player now (wary_of g.last player) = record {
      player = was.player;
      few = was.few;
      kept = was.kept;
      node = swapped limits player b.terms.settings (links player).node now.lockstep (wary_of g.last player).node
          old.opened is.opened was.node;
      others = subst (λ (o : Others). others.Represents limits.players limits.places player o
          (wary_of g.last player).gone (wary_of g.last player).newest) (old.others ∙ sym is.others) was.others;
      peers = was.peers;
    } in
    let game : AreRemaining marking limits b.terms.settings later = record {
      window = g.window;
      events = g.events;
      last = g.last;
      runs = g.runs;
      nodes = λ other low. one_put (λ p s. survivor.Represents limits p s (wary_of g.last p))
          session.survivors player now here other (g.nodes other low);
      inputs = g.inputs;
      packets = g.packets;
      reports = g.reports;
      rows = g.rows;
      fair = g.fair;
      going = g.going;
    } in
    silently marking limits b.terms.settings (game_seal secret b.game) session parts player are few new later
    (is.sealed ∙ sym old.sealed)
    (calls.called marking limits b.terms.settings session links are.links player few later (linked new.link) game refl
    refl refl (calls.much_on marking limits b.terms.settings session links are.links player few now.lockstep
    (grows limits player (links player).node now.lockstep (wary_of g.last player).node (wary_of g.last player).node
    was.node here.node few (holds_same (wary_of g.last player).node)))
    (same_functions (λ q. is.peers q ∙ sym (old.peers q)))) refl

-- The command line of the program: each subcommand with its arguments, in the order of help.
use Rattle.std.specs.Prelude.{◌≡◌, ℤ, pos, true, false, List, [], ◌∷◌, ◌++◌, codes}
use Rattle.clap.specs.Matches.{found_of}
use Rattle.clap.specs.Simple.{App, Shape, matches_of, new_shape, subcommand_of, subcommand_rows_of}
use Rattle.clap.specs.Walk.{Rule, Text, rows_of}
use Rattle.clap.specs.declared.parser.matches.ArgMatches.{ArgMatches}
use Rattle.dn_program.specs.Arguments.{file_rule, files_rule, flag_rule, number_rule, path_rule, wads_rule, with_default, word_rule}

-- a number with a default
abbrev pub number : Text → (least greatest : ℤ) → Text → Rule
number name least greatest default = with_default default (number_rule name least greatest)

abbrev pub seed_rule : Rule
seed_rule = number (codes "seed") (pos 0) (pos 4294967295) (codes "1")

-- most bytes of a demo
abbrev pub limit_rule : Text → Rule
limit_rule default = number (codes "limit") (pos 1024) (pos 16777216) default

-- the options of a game that are numbers, but for the limit
abbrev pub choice_rules : List Rule
choice_rules =
    number (codes "players") (pos 2) (pos 4) (codes "2")
    ∷ number (codes "skill") (pos 0) (pos 4) (codes "2")
    ∷ number (codes "episode") (pos 1) (pos 3) (codes "1")
    ∷ number (codes "map") (pos 1) (pos 32) (codes "1")
    ∷ number (codes "deathmatch") (pos 0) (pos 2) (codes "0") ∷ []

-- those that are flags
abbrev pub flag_rules : List Rule
flag_rules = flag_rule (codes "respawn") ∷ flag_rule (codes "nomonsters") ∷ flag_rule (codes "extra") ∷ []

-- a game whose demo has at most so many bytes by default
abbrev pub game_rules : Text → List Rule
game_rules limit = choice_rules ++ (limit_rule limit ∷ flag_rules)

abbrev pub short_limit : Text
short_limit = codes "131072"

abbrev pub long_limit : Text
long_limit = codes "16777216"

abbrev pub trace_rule : Rule
trace_rule = flag_rule (codes "trace")

-- it has a rule on others: it excludes `--trace` and `--calm`
abbrev pub script_rule : Rule
script_rule = record (flag_rule (codes "script")) { is_free = false }

-- the file that is read, and the file that is made
abbrev pub path_rules : List Rule
path_rules = path_rule (codes "in") ∷ path_rule (codes "out") ∷ []

abbrev pub upgrade_rules : List Rule
upgrade_rules = limit_rule long_limit ∷ path_rules

abbrev pub json_rule : Rule
json_rule = flag_rule (codes "json")

-- files of which lines or objects are told
abbrev pub reader_rules : List Rule
reader_rules = json_rule ∷ files_rule ∷ []

abbrev pub lumps_rules : List Rule
lumps_rules = json_rule ∷ wads_rule ∷ []

-- two demos
abbrev pub diff_rules : List Rule
diff_rules = word_rule (codes "one") ∷ word_rule (codes "other") ∷ []

abbrev pub sim_rules : List Rule
sim_rules = game_rules short_limit ++ (trace_rule ∷ files_rule ∷ [])

abbrev pub storm_rules : List Rule
storm_rules =
    game_rules short_limit ++ (seed_rule
    ∷ number (codes "count") (pos 1) (pos 1000000) (codes "1000")
    ∷ number (codes "calm") (pos 0) (pos 1000) (codes "0")
    ∷ trace_rule
    ∷ script_rule ∷ [])

-- rounds over sockets
abbrev pub loop_rules : List Rule
loop_rules =
    game_rules short_limit ++ (seed_rule
    ∷ number (codes "rounds") (pos 1) (pos 1000000) (codes "100")
    ∷ number (codes "base") (pos 1024) (pos 65532) (codes "5029") ∷ [])

abbrev pub raw_rule : Rule
raw_rule = flag_rule (codes "raw")

abbrev pub play_rules : List Rule
play_rules = loop_rules ++ (number (codes "me") (pos 0) (pos 3) (codes "0") ∷ raw_rule ∷ [])

-- a session over a network, at the host and at those who join
abbrev pub session_rules : List Rule
session_rules =
    file_rule (codes "key")
    ∷ seed_rule
    ∷ number (codes "seconds") (pos 0) (pos 86400) (codes "0")
    ∷ raw_rule ∷ []

abbrev pub host_rules : List Rule
host_rules =
    game_rules long_limit ++ (number (codes "port") (pos 1024) (pos 65535) (codes "5029")
    ∷ number (codes "rate") (pos 1) (pos 35) (codes "35") ∷ session_rules)

abbrev pub join_rules : List Rule
join_rules =
    word_rule (codes "address")
    ∷ number_rule (codes "me") (pos 1) (pos 3)
    ∷ number_rule (codes "players") (pos 2) (pos 4)
    ∷ number_rule (codes "port") (pos 1024) (pos 65535) ∷ session_rules

abbrev pub key_rules : List Rule
key_rules = word_rule (codes "file") ∷ []

-- a subcommand with these arguments
abbrev pub subcommand : Text → List Rule → Shape
subcommand name rules = record (new_shape name) { rules = rules }

-- a command with more subcommands
abbrev pub with_subcommands : App → List Shape → App
with_subcommands app shapes =
    record { top = record app.top { is_leaf = false }; subs = app.subs ++ shapes }

-- the program, of which some subcommand has to be given
abbrev pub bare : App
bare =
    record {
      top = record (new_shape (codes "netgame")) { has_version = true; subcommand_required = true };
      subs = [];
    }

-- what reads a datagram or a demo
abbrev pub readers : List Shape
readers =
    subcommand (codes "show") reader_rules
    ∷ subcommand (codes "demo") reader_rules
    ∷ subcommand (codes "rows") reader_rules
    ∷ subcommand (codes "upgrade") upgrade_rules ∷ []

-- what is asked of demos
abbrev pub demos : List Shape
demos =
    subcommand (codes "stats") reader_rules
    ∷ subcommand (codes "lumps") lumps_rules
    ∷ subcommand (codes "diff") diff_rules
    ∷ subcommand (codes "record") path_rules ∷ []

-- what plays games in this process and on this machine
abbrev pub games : List Shape
games =
    subcommand (codes "sim") sim_rules
    ∷ subcommand (codes "storm") storm_rules
    ∷ subcommand (codes "loop") loop_rules
    ∷ subcommand (codes "play") play_rules ∷ []

-- what plays over a network
abbrev pub sessions : List Shape
sessions =
    subcommand (codes "host") host_rules
    ∷ subcommand (codes "join") join_rules
    ∷ subcommand (codes "key") key_rules ∷ []

unfoldable pub netgame : App
netgame = with_subcommands bare (((readers ++ demos) ++ games) ++ sessions)

-- what is read of a command line is what these words say by the rules of clap: each option's value, of the program
-- and of the subcommand
abbrev pub IsReadAs : List Text → ArgMatches → Type 0
IsReadAs words matches =
    (rows_of (found_of matches) ≡ matches_of netgame words)
    × (subcommand_rows_of matches ≡ subcommand_of netgame words)

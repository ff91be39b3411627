-- The drops: the number of each, by what is wrong with what came, and what is printed of it.
use Rattle.std.specs.Prelude.{ℕ, slice_index_or, List, [], ◌∷◌, codes}

-- its datagram is too short
abbrev pub short : ℕ
short = 1

-- it has too many commands
abbrev pub many : ℕ
many = 2

-- its datagram has another length than its count of commands tells
abbrev pub length : ℕ
length = 3

-- its sum is wrong
abbrev pub sum : ℕ
sum = 4

-- it does not come from a peer
abbrev pub stranger : ℕ
stranger = 5

-- it is a set-up packet, and the node does not listen or its sender is not the key player
abbrev pub out_of_place : ℕ
out_of_place = 6

-- its settings are those of another version of the game
abbrev pub version : ℕ
version = 7

-- its settings are out of range
abbrev pub range : ℕ
range = 8

-- it tells the node to end the game
abbrev pub kill : ℕ
kill = 9

-- its first tic lies below 0
abbrev pub tic : ℕ
tic = 10

-- it has a command that would end a demo
abbrev pub command : ℕ
command = 11

-- there is no room for its commands yet
abbrev pub overrun : ℕ
overrun = 12

-- the node does not play
abbrev pub not_playing : ℕ
not_playing = 13

-- it ends where it cannot
abbrev pub end : ℕ
end = 14

-- its sender is given up
abbrev pub given_up : ℕ
given_up = 15

-- what is printed of each, by its number
abbrev pub words : List (List ℕ)
words =
    []
    ∷ codes " short"
    ∷ codes " many"
    ∷ codes " length"
    ∷ codes " sum"
    ∷ codes " stranger"
    ∷ codes " set-up"
    ∷ codes " version"
    ∷ codes " range"
    ∷ codes " kill"
    ∷ codes " tic"
    ∷ codes " command"
    ∷ codes " overrun"
    ∷ codes " not playing"
    ∷ codes " end"
    ∷ codes " given up"
    ∷ []

-- what is printed of the drop of this number, or nothing where none has it
abbrev pub drop_word : ℕ → List ℕ
drop_word number = slice_index_or words number []

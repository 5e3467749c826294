-- The kinds of words (the manual, 2.1): a number for each symbol and each reserved word.
use Rattle.std.specs.Prelude.{ℕ}

-- A name and a constant have kinds of their own.
abbrev pub a_name : ℕ
a_name = 1

abbrev pub a_constant : ℕ
a_constant = 2

-- Single symbols: # $ ( ) * + , - . / : ; < = > @ [ ]
abbrev pub hash : ℕ
hash = 3

abbrev pub dollar : ℕ
dollar = 4

abbrev pub open_paren : ℕ
open_paren = 5

abbrev pub close_paren : ℕ
close_paren = 6

abbrev pub star : ℕ
star = 7

abbrev pub plus : ℕ
plus = 8

abbrev pub comma : ℕ
comma = 9

abbrev pub minus : ℕ
minus = 10

abbrev pub period : ℕ
period = 11

abbrev pub slash : ℕ
slash = 12

abbrev pub colon : ℕ
colon = 13

abbrev pub semicolon : ℕ
semicolon = 14

abbrev pub less_sign : ℕ
less_sign = 15

abbrev pub equal_sign : ℕ
equal_sign = 16

abbrev pub greater_sign : ℕ
greater_sign = 17

abbrev pub at_sign : ℕ
at_sign = 18

abbrev pub open_bracket : ℕ
open_bracket = 19

abbrev pub close_bracket : ℕ
close_bracket = 20

-- Multiple ones: [+] (+) (-) (=) >= <= -> => <-; `_` is the same word as `<-`.
abbrev pub exclusive_sign : ℕ
exclusive_sign = 21

abbrev pub sum_sign : ℕ
sum_sign = 22

abbrev pub difference_sign : ℕ
difference_sign = 23

abbrev pub same_sign : ℕ
same_sign = 24

abbrev pub at_least_sign : ℕ
at_least_sign = 25

abbrev pub at_most_sign : ℕ
at_most_sign = 26

abbrev pub goto_sign : ℕ
goto_sign = 27

abbrev pub call_sign : ℕ
call_sign = 28

abbrev pub delayed_sign : ℕ
delayed_sign = 29

-- Reserved words.
abbrev pub case_word : ℕ
case_word = 30

abbrev pub do_word : ℕ
do_word = 31

abbrev pub end_case_word : ℕ
end_case_word = 32

abbrev pub if_word : ℕ
if_word = 33

abbrev pub then_word : ℕ
then_word = 34

abbrev pub else_word : ℕ
else_word = 35

abbrev pub end_if_word : ℕ
end_if_word = 36

abbrev pub end_word : ℕ
end_word = 37

abbrev pub con_word : ℕ
con_word = 38

abbrev pub red_word : ℕ
red_word = 39

abbrev pub ext_word : ℕ
ext_word = 40

abbrev pub head_word : ℕ
head_word = 41

abbrev pub tail_word : ℕ
tail_word = 42

abbrev pub time_word : ℕ
time_word = 43

abbrev pub input_word : ℕ
input_word = 44

abbrev pub output_word : ℕ
output_word = 45

abbrev pub level_word : ℕ
level_word = 46

abbrev pub return_word : ℕ
return_word = 47

abbrev pub register_word : ℕ
register_word = 48

abbrev pub memory_word : ℕ
memory_word = 49

abbrev pub terminal_word : ℕ
terminal_word = 50

abbrev pub operation_word : ℕ
operation_word = 51

abbrev pub control_word : ℕ
control_word = 52

-- The rules: the words that are read, and what they ask for.
pub mod Words
pub mod Asked
-- What the code keeps: what describes a word, a command and the program to the parser.
pub mod Described

mod Renaming
